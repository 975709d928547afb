use Rattle.std.proofs.Common.{◌≡◌, ℕ, ◌<◌, ◌≤◌, length}
use Rattle.cs_state.specs.Numbers.{kept_at}
use Rattle.cs_state.specs.Shares.{numbers_that_pass, is_in_every_state}
use Rattle.cs_state.proofs.marks.kept_below.Given as goal

abbrev pub invariant-loop-id : goal.invariant-loop-id
invariant-loop-id l = record {
  count : l.count ≡ length (numbers_that_pass (is_in_every_state l.marks l.slots) l.id);
  few : l.count ≤ l.id;
  long : length l.counts.items ≡ l.id;
  each : (k : ℕ) → k < l.id → kept_at l.counts.items k ≡ length (numbers_that_pass (is_in_every_state l.marks l.slots) k);
}
