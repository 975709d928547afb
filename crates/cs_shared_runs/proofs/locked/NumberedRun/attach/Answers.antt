use Rattle.std.proofs.Common.{◌≡◌, ◌≢◌, ◌∙◌, refl, sym, ap, subst}
use Rattle.std.specs.Prelude.{Err}
use Rattle.cs_journal.specs.Runs.{PassOf, RunOf, fresh_pass}
use Rattle.cs_journal.specs.Steps.{StepResult}
use Rattle.cs_permit.specs.declared.call.Call.TheVariants as called
use Rattle.cs_shared_runs.specs.Answers.{IsStepOfServedRun}
use Rattle.cs_shared_runs.specs.Locks.{BeganAs, Locked}
use Rattle.cs_shared_runs.proofs.Telling.{another, refused, step_keeps, step_keeps_users, step_numbers, told}
use Rattle.cs_shared_runs.proofs.locked.NumberedRun.attach.Goals as goal

pub returns-then-not-is_of-clause-answers : goal.returns-then-not-is_of-clause-answers
returns-then-not-is_of-clause-answers c =
    let differs : c.self.inside.number ≢ c.args.number =
    λ own. (let no = c.if-not-is_of.ensures.1 (sym (ap (λ (l : Locked). l.number) c.self.view_is) ∙ own) in cc) in
    another (BeganAs c.args.self.now) c.args.number c.self.inside.number c.self.inside.run (
      ap (λ (l : Locked). l.number) c.self.view_is,
      ap (λ (l : Locked). l.run.fresh) c.self.view_is,
      ap (λ (l : Locked). l.run.users) c.self.view_is,
    ) c.entries.ensures.legal differs

pub returns-in-Err-clause-answers : goal.returns-in-Err-clause-answers
returns-in-Err-clause-answers c =
    refused (BeganAs c.args.self.now) c.args.number c.self.inside.number c.self.inside.run (
      ap (λ (l : Locked). l.number) c.self.view_is,
      ap (λ (l : Locked). l.run.fresh) c.self.view_is,
      ap (λ (l : Locked). l.run.users) c.self.view_is,
    ) c.entries.ensures.legal (ap (λ (l : Locked). l.number) c.self.view_is ∙ c.if-not-is_of.ensures.0 refl) c.in-Err.fault
    (λ foreign. c.in-Err.ensures.own (ap Err foreign)) (λ room. c.in-Err.ensures.room.0 (ap Err room))

pub returns-clause-answers : goal.returns-clause-answers
returns-clause-answers c =
    let call = called.Attach (record { user = c.args.user }) in
    let s = c.step-answer in
    let numbers : s.new.pass.number ≡ c.in-Ok.pass.number =
    ap (λ (x : StepResult). x.pass.number) s.ensures.stepped.1 ∙ step_numbers c.new_pass.new.self c.in-Ok.pass c.args.now call
    s.ensures.stepped.0 in
    let pass : c.in-Ok.pass ≡ fresh_pass s.new.pass.number =
    c.in-Ok.ensures.pass ∙ ap fresh_pass (sym (numbers ∙ ap (λ (p : PassOf). p.number) c.in-Ok.ensures.pass)) in
    let its : BeganAs c.args.self.now c.args.number c.new_pass.new.self.fresh c.new_pass.new.self.users = (
      sym (c.if-not-is_of.ensures.0 refl),
      ap (λ (r : RunOf). r.fresh) c.in-Ok.ensures.run ∙ ap (λ (l : Locked). l.run.fresh) c.self.view_is,
      ap (λ (r : RunOf). r.users) c.in-Ok.ensures.run ∙ ap (λ (l : Locked). l.run.users) c.self.view_is,
    ) in
    subst (λ (p : PassOf). IsStepOfServedRun (BeganAs c.args.self.now) c.args.number p c.args.now call s.result s.new.pass) pass
    (told (BeganAs c.args.self.now) c.args.number c.new_pass.new.self s.new.self c.in-Ok.pass s.new.pass c.args.now call s.result
    its s.ensures.stepped c.entries-2.ensures.legal c.in-Ok.ensures.fits s.ensures.legal s.ensures.fits)

pub returns-clause-keeps : goal.returns-clause-keeps
returns-clause-keeps c = (
  ap (λ (l : Locked). l.number) c.self.view_is,
  ap (λ (s : StepResult). s.run.fresh) c.step-answer.ensures.stepped.1
      ∙ step_keeps c.new_pass.new.self c.in-Ok.pass c.args.now (called.Attach (record { user = c.args.user }))
      c.step-answer.ensures.stepped.0
      ∙ ap (λ (r : RunOf). r.fresh) c.in-Ok.ensures.run
      ∙ ap (λ (l : Locked). l.run.fresh) c.self.view_is,
  ap (λ (s : StepResult). s.run.users) c.step-answer.ensures.stepped.1
      ∙ step_keeps_users c.new_pass.new.self c.in-Ok.pass c.args.now (called.Attach (record { user = c.args.user }))
      c.step-answer.ensures.stepped.0
      ∙ ap (λ (r : RunOf). r.users) c.in-Ok.ensures.run
      ∙ ap (λ (l : Locked). l.run.users) c.self.view_is,
)
