use Rattle.std.proofs.Common.{length}
use Rattle.std.specs.List.{filter}
use Rattle.cs_sets.specs.Every.{every}
use Rattle.cs_sets.specs.Orders.{needs_in}
use Rattle.cs_different.specs.Members.{has_seconds}
use Rattle.cs_every.specs.Texts.{picks_text}
use Rattle.cs_every.proofs.Written.{IsPart}
use Rattle.cs_picks.proofs.under.write_members.Given as goal

abbrev pub invariant-loop-set : goal.invariant-loop-set
invariant-loop-set g l =
    IsPart (g.W.Write.contents l.fn.out) (g.W.Write.contents l.out) (picks_text (filter (has_seconds l.firsts) l.sets))
    (picks_text (filter (has_seconds l.firsts) (every (needs_in l.order) (length l.order))))

abbrev pub decreases-loop-set : goal.decreases-loop-set
decreases-loop-set g l = length (filter (has_seconds l.firsts) l.sets)
