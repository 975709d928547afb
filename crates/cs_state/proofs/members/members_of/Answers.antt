use Rattle.std.proofs.Common.{◌≡◌, ◌<◌, false, true, [], ◌∷◌, ◌++◌, sym, ap, ◌∙◌, arith, length, replicate, get_or}
use Rattle.std.proofs.lemmas.List.{length-replicate, length-set, take_more}
use Rattle.std.specs.Prelude.{slice_set}
use Rattle.cs_state.specs.Shares.{numbers_that_pass, mark_at}
use Rattle.cs_state.specs.Steps.{members_in}
use Rattle.cs_state.proofs.Including.{mark_kept, marked_more, no_ids, none_marked}
use Rattle.cs_state.proofs.members.members_of.Goals as goal

pub loop-place-init : goal.loop-place-init
loop-place-init c =
    let is : c.in_ok-members.members.items ≡ replicate c.args.count false = c.in_ok-members.ensures.items_if_clones_equal (λ y e. e) in
    record {
      long = ap length is ∙ length-replicate c.args.count false;
      so_far = ap members_in is ∙ no_ids (mark_at (replicate c.args.count false)) (none_marked c.args.count)
          (length (replicate c.args.count false));
      later = λ k after. ap (λ marks. mark_at marks k) is ∙ none_marked c.args.count k;
    }

pub loop-place-preserved : goal.loop-place-preserved
loop-place-preserved c =
    let i = c.loop-place.place-index in
    let low = c.loop-place-test.true in
    let places = c.args.places.now in
    let p = get_or places i 0 in
    let marks = c.loop-place.members.items in
    let long = c.loop-place.invariant.long in
    let same = length-set marks p true in
    let inside : p < length marks = (let l = c.requires.inside i 0 low in omega (arith, l, long)) in
    record {
      long = same ∙ long;
      so_far =
          ap (numbers_that_pass (mark_at (slice_set marks p true))) same
          ∙ marked_more marks (length marks) p (omega arith) inside
          (λ k le. c.loop-place.invariant.later k (λ j less. let up = c.requires.ascending j i less low in omega (arith, up, le)))
          ∙ ap (λ xs. xs ++ p ∷ []) c.loop-place.invariant.so_far
          ∙ sym (take_more places i 0 low);
      later = λ k after. mark_kept marks p k (after i (omega arith)) ∙ c.loop-place.invariant.later k
          (λ j less. after j (omega (arith, less)));
    }
