use Rattle.cs_journal.specs.Runs.{Fits}
use Rattle.run_bench.proofs.ground.step_all.Given as goal

abbrev pub invariant-loop-place : goal.invariant-loop-place
invariant-loop-place l = Fits l.run l.pass
