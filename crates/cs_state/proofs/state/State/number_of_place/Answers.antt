use Rattle.std.proofs.Common.{◌≡◌, ◌<◌, ℕ, List, inl, inr, Option, None, Some, IfNone, IfSome, refl, sym, ap, ◌∙◌, subst, arith, length}
use Rattle.std.proofs.lemmas.List.{get_or_read}
use Rattle.std.specs.Arc.{arc_value}
use Rattle.cs_paths.specs.Marks.{count_with_key_below, kept_at}
use Rattle.cs_state.specs.declared.numbers.Own.{Own}
use Rattle.cs_state.specs.Numbers.{number_in, own_in_place, HasId}
use Rattle.cs_state.specs.Shares.{number_of_id}
use Rattle.cs_state.specs.States.{places_in, slots_in}
use Rattle.cs_state.proofs.Sharing.{are_ids, id_inside, id_low, id_number, ids_are, is_order, own_few}
use Rattle.cs_state.proofs.state.State.number_of_place.Goals as goal

pub index-requires : goal.index-requires
index-requires c =
    let s = c.args.self.now in
    let o = c.order.result.now in
    let r = is_order (arc_value s.parts) (places_in s) s.moved s.own.items c.requires.made.state o c.order.ensures in
    let ids = r.back.long in
    let places = r.each.long in
    let there = c.requires.there in
    let long = o.ids.ok.0 in
    omega (arith, ids, places, there, long)

pub number_of-requires-clause-there : goal.number_of-requires-clause-there
number_of-requires-clause-there c =
    let s = c.args.self.now in
    let o = c.order.result.now in
    let h = c.requires.made.state in
    let r = is_order (arc_value s.parts) (places_in s) s.moved s.own.items h o c.order.ensures in
    let ids = r.back.long in
    let places = r.each.long in
    let there = c.requires.there in
    let read = get_or_read o.ids.items c.args.place c.index.result.now (omega (arith, ids, places, there)) c.index.ensures 0 in
    let low = id_inside (arc_value s.parts) (places_in s) s.moved s.own.items h o c.order.ensures c.args.place there in
    let same = ap length c.deref-2.ensures.value in
    let counted =
    (are_ids (arc_value s.parts) (places_in s) s.moved s.own.items h o c.order.ensures c.kept_ids-ids.result.now
    c.kept_ids-ids.ensures).counted
    in
    omega (arith, read, low, same, counted)

pub number_of-requires-clause-counted : goal.number_of-requires-clause-counted
number_of-requires-clause-counted c =
    let s = c.args.self.now in
    let o = c.order.result.now in
    let h = c.requires.made.state in
    let r = is_order (arc_value s.parts) (places_in s) s.moved s.own.items h o c.order.ensures in
    let ids = r.back.long in
    let places = r.each.long in
    let there = c.requires.there in
    let read = get_or_read o.ids.items c.args.place c.index.result.now (omega (arith, ids, places, there)) c.index.ensures 0 in
    let low = id_inside (arc_value s.parts) (places_in s) s.moved s.own.items h o c.order.ensures c.args.place there in
    let id = c.index.result.now in
    ap (λ (ks : List ℕ). kept_at ks id) c.deref-2.ensures.value
    ∙ (are_ids (arc_value s.parts) (places_in s) s.moved s.own.items h o c.order.ensures c.kept_ids-ids.result.now
    c.kept_ids-ids.ensures).below id (omega (arith, read, low))
    ∙ ap (λ (ks : List ℕ). count_with_key_below (λ k. k) ks id) (sym c.deref.ensures.value)

pub number_of-requires-clause-kept_inside : goal.number_of-requires-clause-kept_inside
number_of-requires-clause-kept_inside c =
    let s = c.args.self.now in
    let o = c.order.result.now in
    let h = c.requires.made.state in
    let ks = c.kept_ids-ids.result.now in
    subst (λ (xs : List ℕ). (k : ℕ) → k < length xs → kept_at xs k < length c.deref-2.result.now) (sym c.deref.ensures.value)
    (λ k low.
    let same = ap length c.deref-2.ensures.value in
    let counted = (are_ids (arc_value s.parts) (places_in s) s.moved s.own.items h o c.order.ensures ks c.kept_ids-ids.ensures).counted in
    let inside =
    id_low (arc_value s.parts) (places_in s) s.moved s.own.items h o c.order.ensures ks c.kept_ids-ids.ensures (kept_at ks.kept.items k)
    (inl (k, low, refl)) in
    omega (arith, same, counted, inside))

pub number_of-requires-clause-own_inside : goal.number_of-requires-clause-own_inside
number_of-requires-clause-own_inside c =
    let s = c.args.self.now in
    let o = c.order.result.now in
    let h = c.requires.made.state in
    let ks = c.kept_ids-ids.result.now in
    subst (λ (own : List Own). (k : ℕ) → k < length own → (own_in_place own k).id < length c.deref-2.result.now)
    (sym c.deref-3.ensures.value)
    (λ k low.
    let same = ap length c.deref-2.ensures.value in
    let counted = (are_ids (arc_value s.parts) (places_in s) s.moved s.own.items h o c.order.ensures ks c.kept_ids-ids.ensures).counted in
    let inside =
    id_low (arc_value s.parts) (places_in s) s.moved s.own.items h o c.order.ensures ks c.kept_ids-ids.ensures
    (own_in_place s.own.items k).id (inr (k, low, refl)) in
    omega (arith, same, counted, inside))

pub number_of-requires-clause-small : goal.number_of-requires-clause-small
number_of-requires-clause-small c =
    let s = c.args.self.now in
    let few =
    own_few (arc_value s.parts) (places_in s) s.moved s.own.items c.requires.made.state c.order.result.now c.order.ensures
    c.kept_ids-ids.result.now c.kept_ids-ids.ensures in
    let same = ap length c.deref-3.ensures.value in
    omega (arith, few, same)

both : (o : Option ℕ) (A : Type 0) (m : ℕ) → IfSome o (λ n. A) → IfSome o (λ n. m ≡ n) → (n : ℕ) → o ≡ Some n → A × (m ≡ n)
both None A m there number n is = absurd (cc)
both (Some k) A m there number n is = (there, (let same : k ≡ n = cc in number ∙ same))

no_one : (o : Option ℕ) (A : Type 0) → IfNone o (A → ⊥) → o ≡ None → A → ⊥
no_one None A none is a = none a
no_one (Some k) A none is a = absurd (cc)

pub returns : goal.returns
returns c =
    let s = c.args.self.now in
    let o = c.order.result.now in
    let h = c.requires.made.state in
    let e = c.number_of.ensures in
    let id = c.index.result.now in
    let r = is_order (arc_value s.parts) (places_in s) s.moved s.own.items h o c.order.ensures in
    let ids = r.back.long in
    let places = r.each.long in
    let there = c.requires.there in
    let read = get_or_read o.ids.items c.args.place id (omega (arith, ids, places, there)) c.index.ensures 0 in
    id_number (arc_value s.parts) (places_in s) s.moved s.own.items h o c.order.ensures c.kept_ids-ids.result.now c.kept_ids-ids.ensures
    c.number_of.result id
    (subst (λ (w : List ℕ × List Own). (n : ℕ) → c.number_of.result ≡ Some n → HasId w.0 w.1 id × (number_in w.0 w.1 id ≡ n))
    (λ i. (c.deref.ensures.value i, c.deref-3.ensures.value i))
    (both c.number_of.result (HasId c.deref.result.now c.deref-3.result.now id) (number_in c.deref.result.now c.deref-3.result.now id)
    e.there e.number))
    (subst (λ (w : List ℕ × List Own). c.number_of.result ≡ None → HasId w.0 w.1 id → ⊥)
    (λ i. (c.deref.ensures.value i, c.deref-3.ensures.value i))
    (no_one c.number_of.result (HasId c.deref.result.now c.deref-3.result.now id) e.none))
    ∙ ap (number_of_id (slots_in s)) (read ∙ sym (ap (λ (is : List ℕ). kept_at is c.args.place)
    (ids_are (arc_value s.parts) (places_in s) s.moved s.own.items h o c.order.ensures)))
