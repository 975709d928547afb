use Rattle.cs_apm.proofs.Logging.{IsForcedSoFar}
use Rattle.cs_apm.proofs.logs.places_forced.Given as goal

abbrev pub invariant-loop-sync : goal.invariant-loop-sync
invariant-loop-sync l = IsForcedSoFar l.ops l.syncs l.forced.items l.from l.sync-index
