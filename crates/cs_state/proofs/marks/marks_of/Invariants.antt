use Rattle.std.proofs.Common.{◌≡◌, ℕ, ◌<◌, false, true, length}
use Rattle.cs_apm.specs.Slots.{step_at}
use Rattle.cs_state.specs.Shares.{mark_at, Leaves, Touches}
use Rattle.cs_state.proofs.marks.marks_of.Given as goal

abbrev pub invariant-loop-step : goal.invariant-loop-step
invariant-loop-step l = record {
  long : length l.marks.items ≡ l.count;
  left : (id : ℕ) → mark_at l.marks.items id ≡ false → (k : ℕ) → k < l.step-index → Leaves id (step_at l.steps k);
  touched : (id : ℕ) → mark_at l.marks.items id ≡ true → (k : ℕ) × (k < l.step-index) × Touches id (step_at l.steps k);
}
