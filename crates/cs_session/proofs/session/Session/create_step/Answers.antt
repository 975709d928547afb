use Rattle.std.proofs.Common.{rules}
use Rattle.cs_session.specs.declared.message.CallMessage.TheVariants as call
use Rattle.cs_session.proofs.Marking.{calls, refuses}
use Rattle.cs_session.proofs.session.Session.create_step.Goals as goal

pub returns-in-Err-clause-takes : goal.returns-in-Err-clause-takes
returns-in-Err-clause-takes g c =
    refuses g.P.Port.gives c.args.now (call.Create c.args.message) c.args.self.now _ c.self.view_is c.args.port.now _
    c.is_some-awaits_attach.ensures c.in-Err.reply c.in-Err.ensures.decided _ (search rules)

pub returns-clause-takes : goal.returns-clause-takes
returns-clause-takes g c =
    calls g.P.Port.gives c.args.now (call.Create c.args.message) c.args.self.now _ c.self.view_is c.args.port.now _
    c.is_some-awaits_attach.ensures
    _ c.in-Ok.ensures.decided c.ask-answer.result _ c.ask-answer.ensures.given _ _ c.settle_create.ensures.value _ (search rules)

pub returns-in-Err-clause-fits : goal.returns-in-Err-clause-fits
returns-in-Err-clause-fits g c = c.in-Err.ensures.plain c.args.self.now.msize
