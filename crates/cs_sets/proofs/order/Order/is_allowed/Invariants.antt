use Rattle.std.proofs.Common.{length}
use Rattle.cs_sets.specs.Orders.{needs_in}
use Rattle.cs_sets.proofs.Admitting.{IsSoFar}
use Rattle.cs_sets.proofs.order.Order.is_allowed.Given as goal

abbrev pub invariant-loop-place : goal.invariant-loop-place
invariant-loop-place l = IsSoFar (needs_in l.self) (length l.self) l.places l.members l.next l.place-index
