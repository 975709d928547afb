use Rattle.std.proofs.Common.{◌≡◌, ℕ, ◌-◌, List, sym, ap, ◌∙◌, ◌++◌, arith, length, length-drop, take, drop, get_or}
use Rattle.std.proofs.lemmas.List.{take_all}
use Rattle.cs_state.specs.Steps.{items_that_pass}
use Rattle.cs_same_states.proofs.Picking.{both_taken, found_fails, one_skipped, rest_found}
use Rattle.cs_same_states.proofs.differing.places_in_one.Goals as goal

pub loop-here-preserved-then-place-other : goal.loop-here-preserved-then-place-other
loop-here-preserved-then-place-other c =
    let places = c.args.places.now in
    let here = c.loop-here.here in
    record {
      here = omega arith;
      there = omega arith;
      same = λ f none.
          let both = found_fails f c.loop-here.found.items c.push.new.self.items (get_or places here 0) c.in_ok-push.ensures.items none in
          one_skipped f places here c.loop-here-test.true both.1 ∙ c.loop-here.invariant.same f both.0;
    }

pub loop-here-preserved-then-other-place : goal.loop-here-preserved-then-other-place
loop-here-preserved-then-other-place c =
    let others = c.args.others.now in
    let there = c.loop-here.there in
    record {
      here = omega arith;
      there = omega arith;
      same = λ f none.
          let both =
          found_fails f c.loop-here.found.items c.push-then-other-place.new.self.items (get_or others there 0)
          c.in_ok-push-2.ensures.items none in
          c.loop-here.invariant.same f both.0 ∙ sym (one_skipped f others there c.if-there-others.true both.1);
    }

pub loop-here-preserved : goal.loop-here-preserved
loop-here-preserved c = record {
  here = omega arith;
  there = omega arith;
  same = λ f none. both_taken f c.args.places.now c.args.others.now c.loop-here.here c.loop-here.there c.loop-here-test.true
      c.if-there-others.true (omega arith) (c.loop-here.invariant.same f none);
}

all_left : (xs : List ℕ) (i : ℕ) → take (length xs - i) (drop i xs) ≡ drop i xs
all_left xs i = take_all (length xs - i) (drop i xs) (let l = length-drop i xs in omega (arith, l))

pub returns : goal.returns
returns c = λ f none.
    let places = c.args.places.now in
    let others = c.args.others.now in
    let here = c.loop-here.here in
    let there = c.loop-here.there in
    let found = c.loop-here.found.items in
    let first : c.extend_from_slice.new.self.items ≡ found ++ drop here places =
    c.in_ok-extend_from_slice.ensures.items ∙ ap (λ v. found ++ v) (all_left places here) in
    let second : c.extend_from_slice-2.new.self.items ≡ (found ++ drop here places) ++ drop there others =
    c.in_ok-extend_from_slice-2.ensures.items ∙ ap (λ v. c.extend_from_slice.new.self.items ++ v) (all_left others there) ∙ ap
    (λ v. v ++ drop there others) first in
    rest_found f places others found here there (c.loop-here.invariant.same f) (ap (items_that_pass f) (sym second) ∙ none)
