use Rattle.std.proofs.Common.{◌≡◌, ◌≤◌, ◌*◌, length}
use Rattle.cs_sets.specs.Orders.{needs_in}
use Rattle.cs_plan.specs.Plans.{holes_of}
use Rattle.cs_plan.proofs.families.count_holes.Given as goal

abbrev pub invariant-loop-last : goal.invariant-loop-last
invariant-loop-last l = record {
  so_far : l.count ≡ length (holes_of (needs_in l.order) l.last);
  small : l.count ≤ 1024 * l.last;
}
