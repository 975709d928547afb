use Rattle.std.proofs.Common.{◌≡◌, ◌≤◌, take}
use Rattle.cs_plan.specs.Scenes.{says_of}
use Rattle.cs_different.proofs.leaving.count_says.Given as goal

abbrev pub invariant-loop-place : goal.invariant-loop-place
invariant-loop-place l = record {
  so_far : l.count ≡ says_of l.ops (take l.place-index l.places);
  small : l.count ≤ l.place-index;
}
