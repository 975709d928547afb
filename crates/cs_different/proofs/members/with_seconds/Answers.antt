use Rattle.std.proofs.Common.{Bool, ap, cond, get_or, sym, ◌∙◌, ◌++◌, ◌∷◌, []}
use Rattle.std.proofs.lemmas.List.Elements.{filter_more}
use Rattle.cs_sets.specs.declared.row.Row.{Row}
use Rattle.cs_sets.specs.Places.{places_of}
use Rattle.cs_different.specs.Members.{has_seconds}
use Rattle.cs_different.proofs.members.with_seconds.Goals as goal

pub loop-set-preserved : goal.loop-set-preserved
loop-set-preserved c =
    let p : Row → Bool = λ row. has_seconds c.args.firsts.now (places_of row) in
    let d : Row = record { words = [] } in
    let x = get_or c.args.sets.now c.loop-set.set-index d in
    c.in_ok-add_whole.ensures ∙ ap (λ v. v ++ cond (p x) (x ∷ []) []) c.loop-set.invariant
    ∙ sym (filter_more p c.args.sets.now c.loop-set.set-index d c.loop-set-test.true)
