use Rattle.std.proofs.Common.{◌≢◌, refl, ◌∙◌, sym, ap}
use Rattle.cs_shared_runs.specs.Locks.{BeganAs, Locked}
use Rattle.cs_shared_runs.proofs.Telling.{another, its_own}
use Rattle.cs_shared_runs.proofs.locked.NumberedRun.inspect.Goals as goal

pub returns-then-not-is_of-clause-answers : goal.returns-then-not-is_of-clause-answers
returns-then-not-is_of-clause-answers g c =
    let differs : c.self.inside.number ≢ c.args.number =
    λ own. (let no = c.if-not-is_of.ensures.1 (sym (ap (λ (l : Locked). l.number) c.self.view_is) ∙ own) in cc) in
    another (BeganAs c.args.self.now) c.args.number c.self.inside.number c.self.inside.run (
      ap (λ (l : Locked). l.number) c.self.view_is,
      ap (λ (l : Locked). l.run.fresh) c.self.view_is,
      ap (λ (l : Locked). l.run.users) c.self.view_is,
    ) c.entries.ensures.legal differs

pub returns-clause-answers : goal.returns-clause-answers
returns-clause-answers g c = (
  c.self.inside.run,
  its_own (BeganAs c.args.self.now) c.args.number c.self.inside.number c.self.inside.run (
    ap (λ (l : Locked). l.number) c.self.view_is,
    ap (λ (l : Locked). l.run.fresh) c.self.view_is,
    ap (λ (l : Locked). l.run.users) c.self.view_is,
  ) c.entries.ensures.legal (ap (λ (l : Locked). l.number) c.self.view_is ∙ c.if-not-is_of.ensures.0 refl),
  c.look.ensures,
)
