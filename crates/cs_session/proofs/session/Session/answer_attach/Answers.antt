use Rattle.std.proofs.Common.{◌∙◌, ap, refl}
use Rattle.cs_session.specs.declared.message.Message.TheVariants as m
use Rattle.cs_session.specs.Messages.{find_or, goes_on}
use Rattle.cs_session.specs.Steps.{AttachStep, FindStep}
use Rattle.cs_session.proofs.Turns.{attach_comes, ends_by, goes_by, not_found}
use Rattle.cs_session.proofs.session.Session.answer_attach.Goals as goal

pub returns-in-Found-clause-answered : goal.returns-in-Found-clause-answered
returns-in-Found-clause-answered g c =
    let x = c.args.message in
    let last =
    ends_by g.P.Port.gives c.args.now (m.Attach x) c.find_step.new.self c.find_step.new.port AttachStep
    (attach_comes c.find_step.new.self.awaited x (c.find_step.ensures.found c.in-Found.is)) _ _ _ c.attach_step.ensures.takes refl in
    goes_by g.P.Port.gives c.args.now (m.Attach x) c.args.self.now c.args.port.now (FindStep x) (ap (λ o. find_or o x) c.requires)
    c.find_step.result c.find_step.new.self c.find_step.new.port (c.find_step.ensures.takes c.args.now)
    (ap (λ o. goes_on (m.Attach x) (FindStep x) o) c.in-Found.is) _ _ _ last

pub returns-in_default-clause-answered : goal.returns-in_default-clause-answered
returns-in_default-clause-answered g c =
    let x = c.args.message in
    ends_by g.P.Port.gives c.args.now (m.Attach x) c.args.self.now c.args.port.now (FindStep x) (ap (λ o. find_or o x) c.requires) _ _ _
    (c.find_step.ensures.takes c.args.now) (not_found x x _ c.in_default.not-Found)

pub returns-in_default-clause-fits : goal.returns-in_default-clause-fits
returns-in_default-clause-fits g c = c.find_step.ensures.plain c.args.self.now.msize

pub returns-in_default-clause-idle : goal.returns-in_default-clause-idle
returns-in_default-clause-idle g c = c.find_step.ensures.refused c.in_default.not-Found ∙ c.requires
