use Rattle.cs_apm.specs.Rules.{entry_op_at}
use Rattle.cs_apm.proofs.Finding.{IsLatestSoFar}
use Rattle.cs_apm.proofs.found.latest_making.Given as goal

abbrev pub invariant-loop-k : goal.invariant-loop-k
invariant-loop-k l = IsLatestSoFar (entry_op_at l.ops) l.directory l.latest l.k
