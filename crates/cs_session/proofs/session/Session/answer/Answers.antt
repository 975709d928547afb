use Rattle.std.proofs.Common.{refl}
use Rattle.cs_session.specs.declared.message.Message.TheVariants as m
use Rattle.cs_session.specs.Steps.{CallStep}
use Rattle.cs_session.proofs.Turns.{ends_by}
use Rattle.cs_session.proofs.session.Session.answer.Goals as goal

pub returns-in-Call-clause-answered : goal.returns-in-Call-clause-answered
returns-in-Call-clause-answered g c =
    rw c.in-Call.is
    (ends_by g.P.Port.gives c.args.now (m.Call c.in-Call.message) c.args.self.now c.args.port.now (CallStep c.in-Call.message) refl _ _
    _ c.call_step.ensures.takes refl)

pub returns-in-Version-clause-fits : goal.returns-in-Version-clause-fits
returns-in-Version-clause-fits g c = λ _. c.answer_version.ensures.plain c.args.self.now.msize

pub returns-in-Clunk-clause-fits : goal.returns-in-Clunk-clause-fits
returns-in-Clunk-clause-fits g c = λ _. c.answer_clunk.ensures.plain c.args.self.now.msize
