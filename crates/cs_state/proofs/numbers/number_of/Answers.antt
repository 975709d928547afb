use Rattle.std.proofs.Common.{◌≢◌, ◌<◌, length, sym, ap, ◌∙◌, arith, ⊎_elim}
use Rattle.cs_state.specs.Numbers.{own_in_place, kept_at, number_in, IsKept, IsOwn}
use Rattle.cs_state.proofs.Counting.{below_length, ids_rise, kept_fits, kept_place, least_ids, most_ids, no_own, own_number, own_split}
use Rattle.cs_state.proofs.numbers.number_of.Goals as goal
use Rattle.cs_state.proofs.numbers.number_of.Goals.{then-before-own+else-first-id, else-before-own}

pub overflow_sub-most : goal.overflow_sub-most
overflow_sub-most c =
    (let is = c.requires.counted in let fits = kept_fits c.args.kept.now c.args.own.now c.requires.merge c.args.id in
    omega (arith, is, fits))

pub overflow_sub-kept : goal.overflow_sub-kept
overflow_sub-kept c = (let is = c.requires.counted in let fits = below_length (λ k. k) c.args.kept.now c.args.id in omega (arith, is, fits))

pub ids_below-before-requires-clause-rising : goal.ids_below-before-requires-clause-rising
ids_below-before-requires-clause-rising c = ids_rise c.args.kept.now c.args.own.now c.requires.merge

pub ids_below-before-requires-clause-least : goal.ids_below-before-requires-clause-least
ids_below-before-requires-clause-least c = λ k less low.
    let is = c.requires.counted in
    let e = c.saturating_sub.ensures in
    let others = c.saturating_sub-others.ensures in
    least_ids c.args.kept.now c.args.own.now c.requires.merge (length c.args.kept_below.now) c.args.id k c.requires.there
    c.requires.kept_inside c.requires.own_inside (omega (arith, less, e, others, is)) low

pub ids_below-before-requires-clause-most : goal.ids_below-before-requires-clause-most
ids_below-before-requires-clause-most c =
    λ k high low. most_ids c.args.kept.now c.args.own.now c.requires.merge c.args.id k
    (let is = c.requires.counted in omega (arith, is, high)) low

pub returns-then-first-id-clause-number : goal.returns-then-first-id-clause-number
returns-then-first-id-clause-number c =
    sym (ap (number_in c.args.kept.now c.args.own.now) c.if-first-id.true) ∙ own_number c.args.kept.now c.args.own.now c.requires.merge
    c.ids_below-before.result c.if-before-own.true

pub returns-then-kept-place-clause-number : goal.returns-then-kept-place-clause-number
returns-then-kept-place-clause-number c =
    let e = c.ids_below-before.ensures in
    let split = own_split c.args.own.now c.args.id c.ids_below-before.result e.bound e.low e.high in
    let kept = c.requires.counted in
    omega (arith, split, kept)

pub returns-else-kept-place-clause-none : goal.returns-else-kept-place-clause-none
returns-else-kept-place-clause-none c =
    let e = c.ids_below-before.ensures in
    let other : c.ids_below-before.result < length c.args.own.now → (own_in_place c.args.own.now c.ids_below-before.result).id ≢ c.args.id =
    elim c.if-before-own.branch [
      | then-before-own+else-first-id w ↦ λ _. w.if-first-id.false
      | else-before-own w ↦ λ lt. absurd
          (let ge = w.if-before-own.false in omega (arith, lt, ge))
    ] in
    λ has. ⊎_elim
    (λ (w : IsKept c.args.kept.now c.args.id). c.if-kept-place.false
    (ap (kept_at c.args.kept.now) (c.requires.counted ∙ kept_place c.args.kept.now c.requires.merge.kept_up c.args.id w) ∙ w.2))
    (λ (w : IsOwn c.args.own.now c.args.id). no_own c.args.own.now c.requires.merge.own_up c.args.id c.ids_below-before.result e.bound e.low
    e.high other w)
    has

pub returns-else-place-kept-clause-none : goal.returns-else-place-kept-clause-none
returns-else-place-kept-clause-none c =
    let e = c.ids_below-before.ensures in
    let other : c.ids_below-before.result < length c.args.own.now → (own_in_place c.args.own.now c.ids_below-before.result).id ≢ c.args.id =
    elim c.if-before-own.branch [
      | then-before-own+else-first-id w ↦ λ _. w.if-first-id.false
      | else-before-own w ↦ λ lt. absurd
          (let ge = w.if-before-own.false in omega (arith, lt, ge))
    ] in
    λ has. ⊎_elim
    (λ (w : IsKept c.args.kept.now c.args.id). let same =
    c.requires.counted ∙ kept_place c.args.kept.now c.requires.merge.kept_up c.args.id w in let low = w.1 in let high =
    c.if-place-kept.false in omega (arith, same, low, high))
    (λ (w : IsOwn c.args.own.now c.args.id). no_own c.args.own.now c.requires.merge.own_up c.args.id c.ids_below-before.result e.bound e.low
    e.high other w)
    has
