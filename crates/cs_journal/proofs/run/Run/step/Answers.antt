use Rattle.std.proofs.Common.{◌≡◌, ◌∙◌, false, refl, rules, subst}
use Rattle.cs_permit.specs.declared.call.Call.{Call}
use Rattle.cs_journal.proofs.Ends.{ends_small, full_step, short_step}
use Rattle.cs_journal.specs.Small.{is_small}
use Rattle.cs_journal.specs.Steps.{IsStep}
use Rattle.cs_journal.proofs.run.Run.step.Goals as goal

pub returns-in_default : goal.returns-in_default
returns-in_default g c =
    let s = full_step c.args.self.now c.args.pass.now c.args.now c.args.call c.in_default.ensures.legal c.requires.fits
    (c.in_default.ensures.full refl) (c.in_default.ensures.plain refl) in
    record { stepped = s.stepped; legal = s.legal; fits = s.fits; others = s.others; plain = s.plain; answer = s.answers }

pub returns-in_default-share : goal.returns-in_default-share
returns-in_default-share g c =
    let large : is_small c.args.call ≡ false = search rules in
    let s = short_step c.args.self.now c.args.pass.now c.args.now c.args.call c.in-Some.ensures.legal c.requires.fits
    (c.in-Some.ensures.room refl) (ends_small _ _ c.args.call large) in
    record { stepped = s.stepped; legal = s.legal; fits = s.fits; others = s.others; plain = s.plain; answer = s.answers }

pub returns : goal.returns
returns g c =
    let s = subst
    (λ (k : Call). IsStep c.args.self.now c.args.pass.now c.args.now k c.make_call-2.result c.make_call-2.new.self
    c.make_call-2.new.pass) (c.deref.ensures ∙ c.in-Ok.ensures) c.make_call-2.ensures in
    record { stepped = s.stepped; legal = s.legal; fits = s.fits; others = s.others; plain = s.plain; answer = s.answers }
