use Rattle.cs_apm.specs.Rules as rules
use Rattle.cs_apm.specs.Rows.{AreRows}
use Rattle.cs_apm.proofs.rows.rows_of.Given as goal

abbrev pub invariant-loop-j : goal.invariant-loop-j
invariant-loop-j l = AreRows (rules.needs l.ops l.syncs l.version l.profile) l.j l.rows.items
