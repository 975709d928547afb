use Rattle.cs_apm.proofs.Finding.{IsFirstSoFar}
use Rattle.cs_apm.proofs.found.first_sync.Given as goal

abbrev pub invariant-loop-sync : goal.invariant-loop-sync
invariant-loop-sync l = IsFirstSoFar l.syncs l.i l.op l.first l.sync-index
