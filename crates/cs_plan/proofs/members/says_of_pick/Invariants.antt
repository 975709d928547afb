use Rattle.std.proofs.Common.{◌≡◌, ◌≤◌, take}
use Rattle.cs_plan.specs.Scenes.{says_of}
use Rattle.cs_plan.proofs.members.says_of_pick.Given as goal

abbrev pub invariant-loop-place : goal.invariant-loop-place
invariant-loop-place l = record {
  so_far : l.count ≡ says_of l.ops (take l.place-index l.places);
  small : l.count ≤ l.place-index;
}
