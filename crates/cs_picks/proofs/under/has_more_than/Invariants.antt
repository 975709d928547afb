use Rattle.std.proofs.Common.{length}
use Rattle.std.specs.List.{filter}
use Rattle.cs_sets.specs.Every.{every}
use Rattle.cs_sets.specs.Orders.{needs_in}
use Rattle.cs_different.specs.Members.{has_seconds}
use Rattle.cs_every.proofs.Written.{IsPassed}
use Rattle.cs_picks.proofs.under.has_more_than.Given as goal

abbrev pub invariant-loop : goal.invariant-loop
invariant-loop l =
    IsPassed l.counter (filter (has_seconds l.firsts) l.sets)
    (filter (has_seconds l.firsts) (every (needs_in l.order) (length l.order)))
