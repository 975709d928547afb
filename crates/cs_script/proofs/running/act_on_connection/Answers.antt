use Rattle.std.proofs.Common.{◌≡◌}
use Rattle.cs_script.specs.declared.script.Action.TheVariants.{Send}
use Rattle.cs_script.proofs.running.act_on_connection.Goals as goal

pub returns-in-Send-clause-ok : goal.returns-in-Send-clause-ok
returns-in-Send-clause-ok g c =
    let action : c.args.act.now.action ≡ Send c.bytes.result.now = cc in
    rw (action, ← c.number-conn.ensures.value) c.answer_message.ensures.ok

pub returns-in-Send-clause-err : goal.returns-in-Send-clause-err
returns-in-Send-clause-err g c =
    let action : c.args.act.now.action ≡ Send c.bytes.result.now = cc in
    rw (action, ← c.number-conn.ensures.value) c.answer_message.ensures.err
