use Rattle.std.proofs.Common.{◌≡◌, ◌++◌}
use Rattle.cs_sets.specs.Orders.{needs_in}
use Rattle.cs_plan.proofs.Listed.{holes_below}
use Rattle.cs_plan.proofs.families.push_holes_at.Given as goal

abbrev pub invariant-loop-missing : goal.invariant-loop-missing
invariant-loop-missing l = l.recipes.items ≡ l.initial.recipes.items ++ holes_below (needs_in l.order) l.last l.missing
