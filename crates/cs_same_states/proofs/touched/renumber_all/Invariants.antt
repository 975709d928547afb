use Rattle.std.proofs.Common.{◌≡◌, ◌<◌, ◌≤◌, ◌*◌, ℕ, length}
use Rattle.cs_apm.specs.Slots.{step_at}
use Rattle.cs_same_states.specs.Places.{AreDistinct, IsRenumbered}
use Rattle.cs_same_states.proofs.touched.renumber_all.Given as goal

abbrev pub invariant-loop-step : goal.invariant-loop-step
invariant-loop-step l = record {
  distinct : AreDistinct l.ids.items;
  few : length l.ids.items ≤ 2 * l.step-index;
  long : length l.made.items ≡ l.step-index;
  each : (k : ℕ) → k < l.step-index → IsRenumbered l.ids.items (step_at l.steps k) (step_at l.made.items k);
}
