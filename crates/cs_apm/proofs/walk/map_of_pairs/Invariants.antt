use Rattle.std.proofs.Common.{length}
use Rattle.cs_apm.specs.Walks.{nodes_of}
use Rattle.cs_apm.proofs.Walking.{IsMapped}
use Rattle.cs_apm.proofs.walk.map_of_pairs.Given as goal

abbrev pub invariant-loop-path : goal.invariant-loop-path
invariant-loop-path l = IsMapped l.fn.pairs.items l.pairs.items (nodes_of l.nodes)

abbrev pub decreases-loop-path : goal.decreases-loop-path
decreases-loop-path l = length l.pairs.items
