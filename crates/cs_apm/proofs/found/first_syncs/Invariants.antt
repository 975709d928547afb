use Rattle.cs_apm.specs.Finding.{AreSynced}
use Rattle.cs_apm.proofs.found.first_syncs.Given as goal

abbrev pub invariant-loop-i : goal.invariant-loop-i
invariant-loop-i l = AreSynced l.ops l.syncs l.i l.found.items
