use Rattle.std.proofs.Common.{rules}
use Rattle.cs_session.specs.Attaches.{find_decision}
use Rattle.cs_session.specs.Steps.{FindStep}
use Rattle.cs_session.proofs.Marking.{answers, asks}
use Rattle.cs_session.proofs.session.Session.find_step.Goals as goal

pub returns-in-Err-clause-takes : goal.returns-in-Err-clause-takes
returns-in-Err-clause-takes g c now =
    answers g.P.Port.gives now (FindStep c.args.message) c.args.self.now _ c.self.view_is c.args.port.now
    (find_decision c.is_some-awaits_attach.result c.self.inside.msize c.self.inside.fids.fids c.args.message) (λ refused. search rules)
    c.in-Err.reply c.in-Err.ensures.decided _ (search rules)

pub returns-in-Ok-find-clause-takes : goal.returns-in-Ok-find-clause-takes
returns-in-Ok-find-clause-takes g c now =
    asks g.P.Port.gives now (FindStep c.args.message) c.args.self.now _ c.self.view_is c.args.port.now
    (find_decision c.is_some-awaits_attach.result c.self.inside.msize c.self.inside.fids.fids c.args.message) (λ refused. search rules) _
    c.in-Ok.ensures.decided _ _ c.find.ensures _ _ (search rules)

pub returns-in-Err-find-clause-takes : goal.returns-in-Err-find-clause-takes
returns-in-Err-find-clause-takes g c now =
    asks g.P.Port.gives now (FindStep c.args.message) c.args.self.now _ c.self.view_is c.args.port.now
    (find_decision c.is_some-awaits_attach.result c.self.inside.msize c.self.inside.fids.fids c.args.message) (λ refused. search rules) _
    c.in-Ok.ensures.decided _ _ c.find.ensures _ _ (search rules)
