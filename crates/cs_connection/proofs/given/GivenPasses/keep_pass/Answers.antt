use Rattle.std.proofs.Common.{◌≡◌, ◌∙◌, sym, ap, subst, refl, ◌++◌, ◌∷◌, [], cond, Some, Option}
use Rattle.std.specs.Option.{option_copied_mut, IsSome}
use Rattle.std.specs.Prelude.{Vec}
use Rattle.std.specs.Map.{lookup}
use Rattle.std.specs.declared.alloc.Global.{Global}
use Rattle.cs_journal.specs.Runs.{PassOf}
use Rattle.cs_registry.specs.Keys.{same_key}
use Rattle.cs_connection.specs.Given.{passes_of}
use Rattle.cs_connection.proofs.Keeping.{given_in, keeps_none, keeps_pass, of_shown, on_err, on_ok, shown}
use Rattle.cs_connection.proofs.given.GivenPasses.keep_pass.Goals as goal

pub returns-in-Some-clause-kept : goal.returns-in-Some-clause-kept
returns-in-Some-clause-kept c =
    let items = λ (v : Vec PassOf Global). v.items in
    let es = c.self.inside.runs.entries in
    let is : Some c.in-Some.passes.now ≡ lookup (same_key c.args.key) es =
    ap option_copied_mut (sym c.in-Some.is) ∙ c.get_mut.ensures.value in
    let there : passes_of (shown items es) c.args.key ≡ c.in-Some.passes.now.items =
    of_shown items es c.args.key ∙ ap (given_in items) (sym is) in
    let w = c.push_pass.new.passes in
    let updates = (c.get_mut.follows.holds w).3 (subst (λ (o : Option (Vec PassOf Global)). IsSome o) is refl) in
    rw (← c.self.view_is)
    (on_ok c.push_pass.result
    (λ pushed. keeps_pass items es (c.get_mut.follows.lender w).entries c.args.key w updates.0 c.args.pass
    (pushed ∙ ap (λ ps. ps ++ c.args.pass ∷ []) (sym there))) c.push_pass.ensures.kept)

pub returns-in-Some-clause-refused : goal.returns-in-Some-clause-refused
returns-in-Some-clause-refused c =
    let items = λ (v : Vec PassOf Global). v.items in
    let es = c.self.inside.runs.entries in
    let is : Some c.in-Some.passes.now ≡ lookup (same_key c.args.key) es =
    ap option_copied_mut (sym c.in-Some.is) ∙ c.get_mut.ensures.value in
    let there : passes_of (shown items es) c.args.key ≡ c.in-Some.passes.now.items =
    of_shown items es c.args.key ∙ ap (given_in items) (sym is) in
    let w = c.push_pass.new.passes in
    let updates = (c.get_mut.follows.holds w).3 (subst (λ (o : Option (Vec PassOf Global)). IsSome o) is refl) in
    rw (← c.self.view_is)
    (on_err c.push_pass.result
    (λ stays. keeps_none items es (c.get_mut.follows.lender w).entries c.args.key w updates.0 (stays ∙ sym there))
    c.push_pass.ensures.refused)

pub returns-in-Ok-clause-kept : goal.returns-in-Ok-clause-kept
returns-in-Ok-clause-kept c =
    let items = λ (v : Vec PassOf Global). v.items in
    let es = c.self.inside.runs.entries in
    let none : passes_of (shown items es) c.args.key ≡ [] =
    of_shown items es c.args.key ∙ ap (given_in items) (sym c.get_mut.ensures.value ∙ ap option_copied_mut c.in_default.is) in
    let w = c.push_pass-2.new.passes in
    rw (← c.self.view_is)
    (keeps_pass items es c.insert.new.self.entries c.args.key w
    (λ k. c.in-Ok.ensures.updates.0 k ∙
    (λ i. cond (same_key c.args.key k) (Some w) (lookup (same_key k) (c.get_mut.follows.holds-at-none i).entries))) c.args.pass
    (c.in_ok-push_pass.ensures.kept ∙ ap (λ ps. ps ++ c.args.pass ∷ []) (c.new-passes.ensures.items ∙ sym none)))
