use Rattle.std.proofs.Common.{refl, rules}
use Rattle.cs_session.specs.Removes.{close_decision}
use Rattle.cs_session.specs.Steps.{CloseStep}
use Rattle.cs_session.proofs.Marking.{answers, both, leads}
use Rattle.cs_session.proofs.session.Session.close_step.Goals as goal

pub returns-in-Err-clause-takes : goal.returns-in-Err-clause-takes
returns-in-Err-clause-takes g c =
    answers g.P.Port.gives c.args.now (CloseStep c.args.fid) c.args.self.now _ c.self.view_is c.args.port.now
    (λ refused. close_decision c.args.now c.is_some-awaits_attach.result c.self.inside.fids.fids c.args.fid) (λ refused. search rules)
    c.in-Err.reply c.in-Err.ensures.decided _ (search rules)

pub returns-clause-takes : goal.returns-clause-takes
returns-clause-takes g c =
    leads g.P.Port.gives c.args.now (CloseStep c.args.fid) c.args.self.now _ c.self.view_is c.args.port.now
    (λ refused. close_decision c.args.now c.is_some-awaits_attach.result c.self.inside.fids.fids c.args.fid) (λ refused. search rules) _
    c.in-Ok.ensures.decided c.ask-answer.result _ c.ask-answer.ensures.given _ _ _
    (both _ _ _ _ c.close_reply.ensures.value c.in-Ok.ensures.taken) refl _ (search rules)
