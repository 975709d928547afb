use Rattle.std.proofs.Common.{◌≡◌, length}
use Rattle.std.specs.List.{filter}
use Rattle.cs_different.specs.Members.{has_seconds}
use Rattle.cs_picks.proofs.under.next_whole.Given as goal

abbrev pub invariant-loop-set : goal.invariant-loop-set
invariant-loop-set l = filter (has_seconds l.firsts) l.sets ≡ filter (has_seconds l.firsts) l.fn.sets

abbrev pub decreases-loop-set : goal.decreases-loop-set
decreases-loop-set l = length l.sets
