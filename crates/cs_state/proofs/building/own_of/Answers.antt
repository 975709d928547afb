use Rattle.std.proofs.Common.{◌≡◌, ◌+◌, ◌<◌, ℕ, List, Some, sym, ap, ◌∙◌, subst, arith, length, slice_get}
use Rattle.std.proofs.lemmas.Option.{slice_get-get_or}
use Rattle.std.specs.List.{All}
use Rattle.cs_apm.specs.Slots.{Slot}
use Rattle.cs_paths.specs.Marks.{kept_at}
use Rattle.cs_paths.specs.PathOrders.{slots_by_path}
use Rattle.cs_state.specs.Shares.{slots_left}
use Rattle.cs_state.specs.Merging.{own_from}
use Rattle.cs_state.proofs.Gathering.{counted_long, few_numbers, made_state, members_inside, places_low, touched_inside}
use Rattle.cs_state.proofs.Sharing.{ids_low, order_low}
use Rattle.cs_state.proofs.building.own_of.Goals as goal

pub index-ids-requires : goal.index-ids-requires
index-ids-requires c =
    let parts = c.args.parts.now in
    let low = ids_low parts c.requires.parts c.args.places.now c.requires.allowed c.args.moved c.requires.moved in
    let long = parts.shares.ids.ok.0 in
    omega (arith, low, long)

pub slots_of_set-requires-clause-inside : goal.slots_of_set-requires-clause-inside
slots_of_set-requires-clause-inside c = members_inside c.args.parts.now c.requires.parts c.args.places.now c.requires.allowed

pub index-requires : goal.index-requires
index-requires c =
    let parts = c.args.parts.now in
    let low = order_low parts c.requires.parts c.args.places.now c.requires.allowed c.args.moved c.requires.moved in
    let long = parts.shares.paths.orders.ok.0 in
    omega (arith, low, long)

pub touched_entries-requires-clause-there : goal.touched_entries-requires-clause-there
touched_entries-requires-clause-there c =
    let parts = c.args.parts.now in
    let oat = slice_get-get_or parts.shares.paths.orders.items c.args.moved c.index.result.now
    (order_low parts c.requires.parts c.args.places.now c.requires.allowed c.args.moved c.requires.moved) ∙ ap Some (sym c.index.ensures) in
    let kat = slice_get-get_or parts.shares.ids.items c.args.moved c.index-ids.result.now
    (ids_low parts c.requires.parts c.args.places.now c.requires.allowed c.args.moved c.requires.moved)
    ∙ ap Some (sym c.index-ids.ensures) in
    subst (λ (ts : List ℕ). (k : ℕ) → k < length ts → kept_at ts k < length c.deref-3.result.now + 1) (sym c.deref.ensures.value)
    (subst (λ (ps : List ℕ). (k : ℕ) → k < length c.index-ids.result.now.touched.items
    → kept_at c.index-ids.result.now.touched.items k < length ps + 1) (sym c.deref-3.ensures.value)
    (touched_inside parts c.requires.parts c.args.places.now c.requires.allowed c.args.moved c.index.result.now oat c.index-ids.result.now
    kat))

pub touched_entries-requires-clause-counted : goal.touched_entries-requires-clause-counted
touched_entries-requires-clause-counted c =
    let parts = c.args.parts.now in
    let oat = slice_get-get_or parts.shares.paths.orders.items c.args.moved c.index.result.now
    (order_low parts c.requires.parts c.args.places.now c.requires.allowed c.args.moved c.requires.moved) ∙ ap Some (sym c.index.ensures) in
    let kat = slice_get-get_or parts.shares.ids.items c.args.moved c.index-ids.result.now
    (ids_low parts c.requires.parts c.args.places.now c.requires.allowed c.args.moved c.requires.moved)
    ∙ ap Some (sym c.index-ids.ensures) in
    ap length c.deref-2.ensures.value
    ∙ counted_long parts c.requires.parts c.args.places.now c.requires.allowed c.args.moved c.index.result.now oat c.index-ids.result.now
    kat
    ∙ ap (λ (ps : List ℕ). length ps + 1) (sym c.deref-3.ensures.value)

pub touched_entries-requires-clause-inside : goal.touched_entries-requires-clause-inside
touched_entries-requires-clause-inside c =
    let parts = c.args.parts.now in
    let oat = slice_get-get_or parts.shares.paths.orders.items c.args.moved c.index.result.now
    (order_low parts c.requires.parts c.args.places.now c.requires.allowed c.args.moved c.requires.moved) ∙ ap Some (sym c.index.ensures) in
    let kat = slice_get-get_or parts.shares.ids.items c.args.moved c.index-ids.result.now
    (ids_low parts c.requires.parts c.args.places.now c.requires.allowed c.args.moved c.requires.moved)
    ∙ ap Some (sym c.index-ids.ensures) in
    let after : c.deref-4.result.now ≡ slots_left parts.tables c.args.places.now = c.deref-4.ensures.value ∙ c.in_ok-slots.ensures in
    subst (λ (ss : List Slot). All (λ place. place < length ss) c.deref-3.result.now) (sym after)
    (subst (λ (ps : List ℕ). All (λ place. place < length (slots_left parts.tables c.args.places.now)) ps) (sym c.deref-3.ensures.value)
    (places_low parts c.requires.parts c.args.places.now c.requires.allowed c.args.moved c.index.result.now oat c.index-ids.result.now kat))

pub touched_entries-requires-clause-small : goal.touched_entries-requires-clause-small
touched_entries-requires-clause-small c =
    let parts = c.args.parts.now in
    let oat = slice_get-get_or parts.shares.paths.orders.items c.args.moved c.index.result.now
    (order_low parts c.requires.parts c.args.places.now c.requires.allowed c.args.moved c.requires.moved) ∙ ap Some (sym c.index.ensures) in
    let kat = slice_get-get_or parts.shares.ids.items c.args.moved c.index-ids.result.now
    (ids_low parts c.requires.parts c.args.places.now c.requires.allowed c.args.moved c.requires.moved)
    ∙ ap Some (sym c.index-ids.ensures) in
    subst (λ (bs : List ℕ). (k : ℕ) → k < length c.deref.result.now
    → kept_at bs (kept_at c.deref.result.now k) + length c.deref.result.now < 4294967296) (sym c.deref-2.ensures.value)
    (subst (λ (ts : List ℕ). (k : ℕ) → k < length ts
    → kept_at c.index-ids.result.now.kept_below.items (kept_at ts k) + length ts < 4294967296) (sym c.deref.ensures.value)
    (few_numbers parts c.requires.parts c.args.places.now c.requires.allowed c.args.moved c.index.result.now oat c.index-ids.result.now
    kat))

pub returns : goal.returns
returns c =
    let parts = c.args.parts.now in
    let oat = slice_get-get_or parts.shares.paths.orders.items c.args.moved c.index.result.now
    (order_low parts c.requires.parts c.args.places.now c.requires.allowed c.args.moved c.requires.moved) ∙ ap Some (sym c.index.ensures) in
    let kat = slice_get-get_or parts.shares.ids.items c.args.moved c.index-ids.result.now
    (ids_low parts c.requires.parts c.args.places.now c.requires.allowed c.args.moved c.requires.moved)
    ∙ ap Some (sym c.index-ids.ensures) in
    let after : c.deref-4.result.now ≡ slots_left parts.tables c.args.places.now = c.deref-4.ensures.value ∙ c.in_ok-slots.ensures in
    made_state parts c.requires.parts c.args.places.now c.requires.allowed c.args.moved c.index.result.now oat c.index-ids.result.now kat
    c.requires.moved c.in_ok-own-2.own.items
    (c.in_ok-own-2.ensures.items ∙ c.deref-5.ensures.value ∙ c.in_ok-own.ensures
    ∙ (λ i. own_from (c.deref-2.ensures.value i) (c.deref.ensures.value i) (slots_by_path (c.deref-3.ensures.value i) (after i)) 0))
