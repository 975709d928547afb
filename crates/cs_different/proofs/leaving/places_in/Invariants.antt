use Rattle.std.proofs.Common.{◌≡◌, ◌≤◌, ◌-◌}
use Rattle.cs_sets.specs.Bits.{has_place}
use Rattle.cs_sets.specs.Following.{chosen}
use Rattle.cs_different.proofs.leaving.places_in.Given as goal

abbrev pub invariant-loop-place : goal.invariant-loop-place
invariant-loop-place l = record {
  low : l.from ≤ 1024;
  places : l.places.items ≡ chosen (has_place l.set) l.from;
}

abbrev pub decreases-loop-place : goal.decreases-loop-place
decreases-loop-place l = 1024 - l.from
