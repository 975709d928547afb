use Rattle.std.proofs.Common.{length}
use Rattle.cs_apm.specs.Held.{held_of}
use Rattle.cs_apm.proofs.Holding.{IsNoted}
use Rattle.cs_apm.proofs.held.held_by_pairs.Given as goal

abbrev pub invariant-loop-entry : goal.invariant-loop-entry
invariant-loop-entry l = IsNoted l.fn.pairs.items l.pairs.items (held_of l.held)

abbrev pub decreases-loop-entry : goal.decreases-loop-entry
decreases-loop-entry l = length l.pairs.items
