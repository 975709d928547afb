use Rattle.std.proofs.Common.{◌≢◌, refl, inl, inr, ◌∙◌, sym, ap}
use Rattle.cs_journal.specs.Steps.{StepResult}
use Rattle.cs_shared_runs.specs.Locks.{BeganAs, Locked}
use Rattle.cs_shared_runs.proofs.Telling.{another, step_keeps, step_keeps_users, told, unfit}
use Rattle.cs_shared_runs.proofs.locked.NumberedRun.call.Goals as goal

pub returns-then-not-is_of-clause-answers : goal.returns-then-not-is_of-clause-answers
returns-then-not-is_of-clause-answers c =
    let differs : c.self.inside.number ≢ c.args.number =
    λ own. (let no = c.if-not-is_of.ensures.1 (sym (ap (λ (l : Locked). l.number) c.self.view_is) ∙ own) in cc) in
    inr (
      inl (another (BeganAs c.args.self.now) c.args.number c.self.inside.number c.self.inside.run (
        ap (λ (l : Locked). l.number) c.self.view_is,
        ap (λ (l : Locked). l.run.fresh) c.self.view_is,
        ap (λ (l : Locked). l.run.users) c.self.view_is,
      ) c.entries.ensures.legal differs),
      refl,
      refl,
    )

pub returns-then-not-fits-clause-answers : goal.returns-then-not-fits-clause-answers
returns-then-not-fits-clause-answers c =
    inr (
      inr (unfit (BeganAs c.args.self.now) c.args.number c.self.inside.number c.self.inside.run (
        ap (λ (l : Locked). l.number) c.self.view_is,
        ap (λ (l : Locked). l.run.fresh) c.self.view_is,
        ap (λ (l : Locked). l.run.users) c.self.view_is,
      ) c.entries.ensures.legal (ap (λ (l : Locked). l.number) c.self.view_is ∙ c.if-not-is_of.ensures.0 refl) c.args.pass.now
          (λ fits. (let no = c.if-not-fits.ensures.1 fits in cc))),
      refl,
      refl,
    )

pub returns-clause-answers : goal.returns-clause-answers
returns-clause-answers c =
    let its : BeganAs c.args.self.now c.args.number c.self.inside.run.fresh c.self.inside.run.users = (
      sym (c.if-not-is_of.ensures.0 refl),
      ap (λ (l : Locked). l.run.fresh) c.self.view_is,
      ap (λ (l : Locked). l.run.users) c.self.view_is,
    ) in
    inl (told (BeganAs c.args.self.now) c.args.number c.self.inside.run c.step.new.self c.args.pass.now c.step.new.pass c.args.now
    c.args.call c.step.result
    its c.step.ensures.stepped c.entries.ensures.legal (c.if-not-fits.ensures.0 refl) c.step.ensures.legal c.step.ensures.fits)

pub returns-clause-keeps : goal.returns-clause-keeps
returns-clause-keeps c = (
  ap (λ (l : Locked). l.number) c.self.view_is,
  ap (λ (s : StepResult). s.run.fresh) c.step.ensures.stepped.1
      ∙ step_keeps c.self.inside.run c.args.pass.now c.args.now c.args.call c.step.ensures.stepped.0
      ∙ ap (λ (l : Locked). l.run.fresh) c.self.view_is,
  ap (λ (s : StepResult). s.run.users) c.step.ensures.stepped.1
      ∙ step_keeps_users c.self.inside.run c.args.pass.now c.args.now c.args.call c.step.ensures.stepped.0
      ∙ ap (λ (l : Locked). l.run.users) c.self.view_is,
)
