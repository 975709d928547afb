use Rattle.std.proofs.Common.{length}
use Rattle.cs_sets.specs.Every.{every}
use Rattle.cs_sets.specs.Orders.{needs_in}
use Rattle.cs_every.proofs.Written.{IsPassed}
use Rattle.cs_every.proofs.counted.has_more_than.Given as goal

abbrev pub invariant-loop : goal.invariant-loop
invariant-loop l = IsPassed l.counter l.sets (every (needs_in l.order) (length l.order))
