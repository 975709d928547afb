use Rattle.cs_apm.specs.Rules as rules
use Rattle.cs_apm.proofs.Filling.{IsFilled}
use Rattle.cs_apm.proofs.rows.row_of.Given as goal

abbrev pub invariant-loop-i : goal.invariant-loop-i
invariant-loop-i l = IsFilled (rules.needs l.ops l.syncs l.version l.profile) l.j l.row l.i
