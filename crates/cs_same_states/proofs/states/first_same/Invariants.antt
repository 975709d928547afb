use Rattle.std.proofs.Common.{◌≡◌, ◌<◌, ℕ, length, slice_index}
use Rattle.std.specs.Arc.{arc_value}
use Rattle.cs_same_states.specs.Firsts.{IsSame}
use Rattle.cs_same_states.proofs.states.first_same.Given as goal

abbrev pub invariant-loop-place : goal.invariant-loop-place
invariant-loop-place l = record {
  long : length l.firsts.items ≡ l.place;
  each : (number : ℕ) → number < l.place → IsSame (arc_value l.scene) number (slice_index l.firsts.items number);
}
