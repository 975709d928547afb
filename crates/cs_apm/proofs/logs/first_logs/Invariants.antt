use Rattle.cs_apm.specs.Finding.{AreLogged}
use Rattle.cs_apm.proofs.logs.first_logs.Given as goal

abbrev pub invariant-loop-i : goal.invariant-loop-i
invariant-loop-i l = AreLogged l.ops l.syncs l.fn.profile l.i l.found.items
