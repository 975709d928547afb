use Rattle.std.proofs.Common.{◌+◌, ◌∙◌, subst, sym}
use Rattle.std.proofs.lemmas.List.{get_or_read}
use Rattle.cs_micro.specs.declared.micro_op.MicroOp.TheVariants.{Say}
use Rattle.cs_apm.specs.Finding.{AreLogged}
use Rattle.cs_apm.proofs.Logging.{logged_more}
use Rattle.cs_apm.proofs.logs.first_logs.Goals as goal

pub loop-i-preserved : goal.loop-i-preserved
loop-i-preserved c =
    let ops = c.args.ops.now in
    let i = c.loop-i.i in
    let op = c.index-ops-i.result in
    subst (AreLogged ops c.args.syncs.now c.args.profile (i + 1)) (sym c.in_ok-push.ensures.items)
    (logged_more ops c.args.syncs.now c.args.profile c.deref.result.now i c.loop-i.found.items op c.first_log.result
    (c.deref.ensures.value ∙ c.in_ok-forced.ensures)
    (get_or_read ops i op c.loop-i-test.true c.index-ops-i.is Say)
    c.first_log.ensures c.loop-i.invariant)
