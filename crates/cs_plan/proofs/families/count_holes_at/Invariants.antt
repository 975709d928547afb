use Rattle.std.proofs.Common.{◌≡◌, ◌≤◌, length}
use Rattle.cs_sets.specs.Orders.{needs_in}
use Rattle.cs_plan.proofs.Listed.{holes_below}
use Rattle.cs_plan.proofs.families.count_holes_at.Given as goal

abbrev pub invariant-loop-missing : goal.invariant-loop-missing
invariant-loop-missing l = record {
  so_far : l.count ≡ length (holes_below (needs_in l.order) l.last l.missing);
  small : l.count ≤ l.missing;
}
