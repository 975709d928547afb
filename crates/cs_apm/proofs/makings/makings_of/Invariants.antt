use Rattle.cs_apm.proofs.FilesMade.{AreMakingsOf}
use Rattle.cs_apm.proofs.makings.makings_of.Given as goal

abbrev pub invariant-loop-place : goal.invariant-loop-place
invariant-loop-place l = AreMakingsOf l.ops l.place l.makings.items
