use Rattle.std.proofs.Common.{IsSome, refl, sym, ap, ◌∙◌, subst}
use Rattle.std.proofs.lemmas.Bool.{false≢true}
use Rattle.std.specs.FinMap as map
use Rattle.std.specs.Option.{is_some, option_copied_mut}
use Rattle.cs_overlay.proofs.ByText.{named_insert, numbers_insert, same_names}
use Rattle.cs_overlay.proofs.answers.Answers.replace.Goals as goal

pub unreachable-requires : goal.unreachable-requires
unreachable-requires c =
    false≢true
    (ap is_some (sym (ap option_copied_mut c.in_default.is) ∙ c.get_mut.ensures.value) ∙ same_names c.self.inside.entries
    c.args.name.now ∙ ap (λ m. is_some (map.get m c.args.name.now)) c.self.view_is ∙ c.requires)

pub invariant_of-self : goal.invariant_of-self
invariant_of-self c =
    let v = record c.in-Some.answer.now { number = c.args.number } in
    named_insert c.self.inside.entries (c.get_mut.follows.lender v) c.args.name.now v
    ((c.get_mut.follows.holds v).3 (subst IsSome c.in-Some.ensures.value refl))
    (c.self.invariant c.args.name.now c.in-Some.answer.now (sym c.in-Some.ensures.value)) c.self.invariant

pub returns : goal.returns
returns c =
    let v = record c.in-Some.answer.now { number = c.args.number } in
    numbers_insert c.self.inside.entries (c.get_mut.follows.lender v) c.args.name.now v
    ((c.get_mut.follows.holds v).3 (subst IsSome c.in-Some.ensures.value refl))
    ∙ ap (λ m. map.insert m c.args.name.now c.args.number) c.self.view_is
