use Rattle.std.proofs.Common.{◌≡◌, ◌≤◌}
use Rattle.cs_sets.specs.Orders.{needs_in}
use Rattle.cs_plan.specs.Plans.{places_of_hole}
use Rattle.cs_plan.specs.Scenes.{says_of}
use Rattle.cs_plan.proofs.members.says_of_hole.Given as goal

abbrev pub invariant-loop-place : goal.invariant-loop-place
invariant-loop-place l = record {
  so_far : l.count ≡ says_of l.ops (places_of_hole (needs_in l.order) l.missing l.place);
  small : l.count ≤ l.place;
}
