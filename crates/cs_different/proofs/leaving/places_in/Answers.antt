use Rattle.std.proofs.Common.{arith, ap, ◌∙◌, ◌++◌, ◌∷◌, [], sym}
use Rattle.cs_sets.specs.Bits.{has_place}
use Rattle.cs_sets.specs.Finding.{IsNext}
use Rattle.cs_different.proofs.Chosen.{place_chosen, rest_unchosen}
use Rattle.cs_different.proofs.leaving.places_in.Goals as goal

pub loop-place-preserved : goal.loop-place-preserved
loop-place-preserved c =
    let has = has_place c.args.set.now in
    let place = c.in-Some.place in
    let next : IsNext has c.loop-place.from 1024 place = c.in-Some.ensures in
    let to = next.before_end in
    record {
      low = omega (arith, to);
      places = c.in_ok-push.ensures.items ∙ ap (λ v. v ++ place ∷ []) c.loop-place.invariant.places
          ∙ sym (place_chosen has c.loop-place.from place next);
    }

pub returns : goal.returns
returns c =
    c.loop-place.invariant.places
    ∙ rest_unchosen c.args.set.now c.loop-place.from c.loop-place.invariant.low c.in_default.ensures
