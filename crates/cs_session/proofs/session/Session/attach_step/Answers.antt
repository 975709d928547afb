use Rattle.std.proofs.Common.{rules}
use Rattle.cs_session.specs.Attaches.{attach_decision}
use Rattle.cs_session.specs.Steps.{AttachStep}
use Rattle.cs_session.proofs.Marking.{asks, attached}
use Rattle.cs_session.proofs.session.Session.attach_step.Goals as goal

pub returns-in-Ok-clause-takes : goal.returns-in-Ok-clause-takes
returns-in-Ok-clause-takes g c =
    asks g.P.Port.gives c.args.now AttachStep c.args.self.now _ c.self.view_is c.args.port.now
    (λ refused. attach_decision c.args.now c.self.inside.awaited) (λ refused. search rules) _ (search rules) _ _ c.attach.ensures.given _ _
    (attached _ c.found.inside.fid c.found.inside.run (record {
      user = c.found.inside.uname;
    }) (search rules) c.found.inside.user c.found.invariant c.attach.result c.in-Ok.pass c.in-Ok.answer c.in-Ok.is _ _
    c.settle_attach.ensures.value _ (search rules))

pub returns-in-Err-clause-takes : goal.returns-in-Err-clause-takes
returns-in-Err-clause-takes g c =
    asks g.P.Port.gives c.args.now AttachStep c.args.self.now _ c.self.view_is c.args.port.now
    (λ refused. attach_decision c.args.now c.self.inside.awaited) (λ refused. search rules) _ (search rules) _ _ c.attach.ensures.given _ _
    (search rules)
