use Rattle.std.proofs.Common.{◌≡◌}
use Rattle.cs_sets.specs.Orders.{needs_in}
use Rattle.cs_plan.specs.Plans.{places_of_hole}
use Rattle.cs_plan.proofs.members.hole_of.Given as goal

abbrev pub invariant-loop-place : goal.invariant-loop-place
invariant-loop-place l = l.places.items ≡ places_of_hole (needs_in l.order) l.missing l.place
