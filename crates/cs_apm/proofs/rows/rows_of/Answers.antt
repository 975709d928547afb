use Rattle.std.proofs.Common.{arith, subst, sym, ◌+◌}
use Rattle.cs_apm.specs.Rules as rule
use Rattle.cs_apm.specs.Rows.{AreRows}
use Rattle.cs_apm.proofs.Filling.{rows_more}
use Rattle.cs_apm.proofs.rows.rows_of.Goals as goal

pub loop-j-preserved : goal.loop-j-preserved
loop-j-preserved c =
    subst (AreRows (rule.needs c.args.ops.now c.args.syncs.now c.args.version c.args.profile) (c.loop-j.j + 1))
    (sym c.in_ok-push.ensures.items)
    (rows_more (rule.needs c.args.ops.now c.args.syncs.now c.args.version c.args.profile) c.loop-j.j c.loop-j.rows.items c.row_of-row.result
    c.loop-j.invariant c.row_of-row.ensures)

pub returns : goal.returns
returns c =
    subst (λ n. AreRows (rule.needs c.args.ops.now c.args.syncs.now c.args.version c.args.profile) n c.loop-j.rows.items) (omega arith)
    c.loop-j.invariant
