use Rattle.std.proofs.Common.{◌≢◌, ◌<◌, length, ◌∙◌, arith}
use Rattle.cs_state.specs.Numbers.{own_in_place}
use Rattle.cs_state.proofs.Counting.{numbers_rise, own_number, before_fits, past_all, kept_number, least_numbers, most_numbers}
use Rattle.cs_state.proofs.numbers.found_at_number.Goals as goal
use Rattle.cs_state.proofs.numbers.found_at_number.Goals.{then-before-own+else-first-number, else-before-own}

pub numbers_below-before-requires-clause-rising : goal.numbers_below-before-requires-clause-rising
numbers_below-before-requires-clause-rising c = numbers_rise c.args.kept.now c.args.own.now c.requires.merge

pub numbers_below-before-requires-clause-least : goal.numbers_below-before-requires-clause-least
numbers_below-before-requires-clause-least c =
    λ k less low. least_numbers c.args.kept.now c.args.own.now c.requires.merge c.args.number k
    (let e = c.saturating_sub.ensures in omega (arith, e, less)) low

pub numbers_below-before-requires-clause-most : goal.numbers_below-before-requires-clause-most
numbers_below-before-requires-clause-most c =
    λ k high low. most_numbers c.args.kept.now c.args.own.now c.requires.merge c.args.number k high low

pub returns-then-first-number-clause-number : goal.returns-then-first-number-clause-number
returns-then-first-number-clause-number c =
    own_number c.args.kept.now c.args.own.now c.requires.merge c.numbers_below-before.result c.if-before-own.true ∙ c.if-first-number.true

pub overflow_sub-place : goal.overflow_sub-place
overflow_sub-place c =
    (let e = c.numbers_below-before.ensures in
    before_fits c.args.kept.now c.args.own.now c.requires.merge c.args.number c.numbers_below-before.result e.bound e.low e.high)

pub returns-then-place-kept-clause-number : goal.returns-then-place-kept-clause-number
returns-then-place-kept-clause-number c =
    let e = c.numbers_below-before.ensures in
    let other : c.numbers_below-before.result < length c.args.own.now
    → (own_in_place c.args.own.now c.numbers_below-before.result).number ≢ c.args.number =
    elim c.if-before-own.branch [
      | then-before-own+else-first-number w ↦ λ _. w.if-first-number.false
      | else-before-own w ↦ λ lt. absurd
          (let ge = w.if-before-own.false in omega (arith, lt, ge))
    ] in
    kept_number c.args.kept.now c.args.own.now c.requires.merge c.args.number c.numbers_below-before.result e.bound e.low e.high other
    c.if-place-kept.true

pub returns-else-place-kept-clause-none : goal.returns-else-place-kept-clause-none
returns-else-place-kept-clause-none c =
    let e = c.numbers_below-before.ensures in
    let other : c.numbers_below-before.result < length c.args.own.now
    → (own_in_place c.args.own.now c.numbers_below-before.result).number ≢ c.args.number =
    elim c.if-before-own.branch [
      | then-before-own+else-first-number w ↦ λ _. w.if-first-number.false
      | else-before-own w ↦ λ lt. absurd
          (let ge = w.if-before-own.false in omega (arith, lt, ge))
    ] in
    past_all c.args.kept.now c.args.own.now c.requires.merge c.args.number c.numbers_below-before.result e.bound e.low e.high other
    c.if-place-kept.false
