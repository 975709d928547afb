use Rattle.std.proofs.Common.{◌+◌, ap, sym, ◌∙◌, Some}
use Rattle.cs_inputs.specs.PickLines.{with_place}
use Rattle.cs_inputs.proofs.ReadingPicks.{placed, placed_more, place_next, places_end, places_from}
use Rattle.cs_inputs.proofs.pick_line.as_places.Goals as goal

pub loop-value-preserved : goal.loop-value-preserved
loop-value-preserved c =
    let values = c.args.values.now in
    let i = c.loop-value.value-index in
    let places = c.loop-value.places.items in
    let next = place_next values i c.value-item.result c.loop-value-test.true c.value-item.is in
    ap (λ ps. placed ps (places_from values (i + 1))) c.in_ok-push.ensures.items
    ∙ placed_more places c.in-Some.place (places_from values (i + 1))
    ∙ ap (λ o. placed places (with_place o (places_from values (i + 1)))) c.in-Some.ensures
    ∙ ap (placed places) (sym next)
    ∙ c.loop-value.invariant

pub returns-in_default : goal.returns-in_default
returns-in_default c =
    let values = c.args.values.now in
    let i = c.loop-value.value-index in
    let places = c.loop-value.places.items in
    let next = place_next values i c.value-item.result c.loop-value-test.true c.value-item.is in
    ap (λ o. placed places (with_place o (places_from values (i + 1)))) c.in_default.ensures
    ∙ ap (placed places) (sym next)
    ∙ c.loop-value.invariant

pub returns : goal.returns
returns c = ap Some c.of.ensures
    ∙ sym (places_end c.args.values.now c.loop-value.value-index c.loop-value.places.items c.loop-value-test.false)
    ∙ c.loop-value.invariant
