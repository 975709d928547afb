use Rattle.std.proofs.Common.{◌≡◌, ◌-◌, ◌<◌, ℕ, suc, List, Some, sym, ap, ◌∙◌, subst, arith, length, get_or}
use Rattle.std.proofs.lemmas.List.{get_or_read}
use Rattle.std.proofs.lemmas.Option.{slice_get-get_or}
use Rattle.std.specs.Arc.{arc_value}
use Rattle.std.specs.Option.{option_map}
use Rattle.std.specs.Prelude.{slice_get}
use Rattle.std.specs.Vec.{vec_len}
use Rattle.cs_entries.specs.DirEntries.{root_home}
use Rattle.cs_entries.specs.declared.entry.Entry.{Entry}
use Rattle.cs_apm.specs.Slots.{entry_at}
use Rattle.cs_state.specs.declared.parts.Parts.{Parts}
use Rattle.cs_state.specs.States.{entries_in, entry_of_id, places_in}
use Rattle.cs_state.proofs.Sharing.{is_order, places_are, places_long, shown_long}
use Rattle.cs_state.proofs.state.State.entry_of_id.Goals as goal

pub index-requires : goal.index-requires
index-requires c =
    let s = c.args.self.now in
    let o = c.order.result.now in
    let h = c.requires.made.state in
    let shown = shown_long (arc_value s.parts) (places_in s) s.moved s.own.items h o c.order.ensures in
    let long = places_long (arc_value s.parts) (places_in s) s.moved s.own.items h o c.order.ensures in
    let there = c.requires.there in
    let some = c.if-id-eq0.false in
    let low =
    (is_order (arc_value s.parts) (places_in s) s.moved s.own.items h o c.order.ensures).each.low (c.args.id - 1) c.index-place.result.now
    (omega (arith, shown, long, there, some)) in
    let at = c.index-place.ensures in
    let entries = (arc_value s.parts).tables.entries.ok.0 in
    subst (λ (p : Parts). c.index-place.result.now < vec_len p.tables.entries) (sym c.deref.ensures) (omega (arith, low, at, entries))

pub returns : goal.returns
returns c =
    let s = c.args.self.now in
    let o = c.order.result.now in
    let h = c.requires.made.state in
    let es = entries_in s in
    let k = c.args.id - 1 in
    let place = c.index-place.result.now in
    let shown = shown_long (arc_value s.parts) (places_in s) s.moved s.own.items h o c.order.ensures in
    let long = places_long (arc_value s.parts) (places_in s) s.moved s.own.items h o c.order.ensures in
    let there = c.requires.there in
    let some = c.if-id-eq0.false in
    let inside : k < length o.places.items = omega (arith, shown, long, there, some) in
    let next : c.args.id ≡ suc k = omega (arith, some) in
    let low = (is_order (arc_value s.parts) (places_in s) s.moved s.own.items h o c.order.ensures).each.low k place inside in
    let at = c.index-place.ensures in
    let read : c.index.result.now ≡ entry_at es place =
    get_or_read es place c.index.result.now (omega (arith, low, at))
    (c.index.ensures ∙ ap (λ (p : Parts). get_or p.tables.entries.items place c.index.result.now) c.deref.ensures) root_home in
    ap (λ (e : Entry). Some e) read
    ∙ sym (ap (entry_of_id s) next
    ∙ ap (λ (os : List ℕ). option_map (entry_at es) (slice_get os k))
    (places_are (arc_value s.parts) (places_in s) s.moved s.own.items h o c.order.ensures)
    ∙ ap (option_map (entry_at es)) (slice_get-get_or o.places.items k place inside ∙ ap (λ (n : ℕ). Some n) (sym at)))
