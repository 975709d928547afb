use Rattle.std.proofs.Common.{◌≡◌, ◌++◌}
use Rattle.cs_sets.specs.Orders.{needs_in}
use Rattle.cs_plan.specs.Plans.{holes_of}
use Rattle.cs_plan.proofs.families.push_holes.Given as goal

abbrev pub invariant-loop-last : goal.invariant-loop-last
invariant-loop-last l = l.recipes.items ≡ l.initial.recipes.items ++ holes_of (needs_in l.order) l.last
