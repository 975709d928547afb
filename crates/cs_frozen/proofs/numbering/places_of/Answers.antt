use Rattle.std.proofs.lemmas.Option.{slice_get_within}
use Rattle.std.proofs.Common.{◌<◌, sym, ◌∙◌, subst, arith, get_or}
use Rattle.cs_frozen.proofs.Tabling.{here_below, one_more}
use Rattle.cs_frozen.proofs.numbering.places_of.Goals as goal

pub index_mut-requires : goal.index_mut-requires
index_mut-requires c =
    let lt = here_below c.args.numbers.now c.loop-place.places.items c.args.end c.loop-place.place c.loop-place.invariant
    c.loop-place-test.true c.requires.below in
    subst (λ n. get_or c.args.numbers.now c.loop-place.place 0 < n) (sym (c.loop-place.places.ok.0 ∙ c.loop-place.invariant.whole)) lt

pub loop-place-init : goal.loop-place-init
loop-place-init c = record {
  whole = sym c.in_ok-places.places.ok.0 ∙ c.in_ok-places.ensures.len;
  placed = λ j n lt is. absurd (omega (arith, lt));
}

pub loop-place-preserved : goal.loop-place-preserved
loop-place-preserved c =
    one_more c.args.numbers.now c.loop-place.places.items c.args.end c.loop-place.place c.loop-place.invariant c.loop-place-test.true
    c.requires.below c.requires.apart

pub returns : goal.returns
returns c =
    λ i n is.
    (let lt = slice_get_within c.args.numbers.now i n is in
    c.loop-place.invariant.placed i n (omega (arith, lt, c.loop-place-test.false)) is)
