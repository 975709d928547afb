use Rattle.std.proofs.Common.{◌++◌, ◌∷◌, [], sym, ap, ◌∙◌, append_assoc}
use Rattle.std.proofs.lemmas.List.{append-nil}
use Rattle.cs_frozen.proofs.numbering.numbers_in_order.Goals as goal

pub loop-number-init : goal.loop-number-init
loop-number-init c =
    ap (λ v. v ++ c.into_iter-number-iterator.result) c.in_ok-numbers.ensures.items ∙ c.into_iter-number-iterator.ensures.into_iter_gives ∙
    c.values-number-items.ensures.rest

pub loop-number-preserved : goal.loop-number-preserved
loop-number-preserved c =
    ap (λ v. v ++ c.next.new.self) c.in_ok-push.ensures.items ∙ append_assoc c.loop-number.numbers.items (c.in-Some.number.now ∷ [])
    c.next.new.self
    ∙ ap (λ w. c.loop-number.numbers.items ++ w) (sym c.in-Some.ensures.steps) ∙ c.loop-number.invariant

pub returns-clause-items : goal.returns-clause-items
returns-clause-items c =
    sym (append-nil c.loop-number.numbers.items) ∙ ap (λ w. c.loop-number.numbers.items ++ w) (sym c.in-None.ensures.steps.0) ∙
    c.loop-number.invariant
