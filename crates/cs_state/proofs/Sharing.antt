-- A state with its own entries and what it shares has the numbers of what stands, by the ids of its order of paths.
use Rattle.std.proofs.Common.{◌≡◌, ◌≢◌, ℕ, zero, suc, ◌+◌, ◌<◌, ◌≤◌, ◌^◌, true, false, cond, List, [], ◌∷◌, inl, inr, Option, None, Some, refl}
use Rattle.std.proofs.Common.{sym, ap, ◌∙◌, subst, arith, ⊎_elim, length, map, slice_get}
use Rattle.std.proofs.lemmas.Bool.{cases_lt, cases_Bool}
use Rattle.std.proofs.lemmas.List.{get_or-map, get_or_past, get_or-set_other, length-map}
use Rattle.std.proofs.lemmas.Option.{slice_get-get_or}
use Rattle.std.specs.List.{All}
use Rattle.std.specs.Option.{option_map_or}
use Rattle.std.specs.Prelude.{fold, slice_set}
use Rattle.cs_apm.specs.Orders.{needs_of}
use Rattle.cs_apm.specs.Slots.{Slot, moved_slot, slot_at, slots_after, step_at}
use Rattle.cs_apm.specs.declared.slot.Step.{Step}
use Rattle.cs_apm.specs.declared.slot.Step.TheVariants as step
use Rattle.cs_paths.specs.declared.path_order.PathOrder.{PathOrder}
use Rattle.cs_paths.specs.Marks.{kept_at}
use Rattle.cs_paths.specs.PathOrders.{IsPathOrder, moves_kept, positions_of, slots_by_path}
use Rattle.cs_paths.proofs.Laws.{moves_low, place_there}
use Rattle.cs_sets.specs.Sets.{IsAllowed}
use Rattle.cs_state.specs.declared.kept_ids.KeptIds.{KeptIds}
use Rattle.cs_state.specs.declared.numbers.Found.{Found}
use Rattle.cs_state.specs.declared.numbers.Own.{Own}
use Rattle.cs_state.specs.declared.parts.Parts.{Parts}
use Rattle.cs_state.specs.Numbers.{own_in_place, number_in, HasId, IsFound, IsKept}
use Rattle.cs_state.specs.Parts.{slots_shown, AreParts, IsState}
use Rattle.cs_state.specs.Shares.{count_standing, ids_by_path, ids_kept, is_entry, number_of_id, places_by_path, slots_left}
use Rattle.cs_state.specs.Shares.{AreIds, IsIdLeft, IsLeft, IsShared, Leaves}
use Rattle.cs_state.proofs.Standing.{counted, has_none, has_number, stands_inside}

-- ---- what no step changes

leaves_at : (steps : List Step) (place : ℕ) → IsLeft steps place → (k : ℕ) → Leaves place (step_at steps k)
leaves_at steps place left k = ⊎_elim
    (λ (low : k < length steps). left k low)
    (λ (high : length steps ≤ k). subst (Leaves place) (sym (get_or_past steps k step.Other high)) tt)
    (cases_lt k (length steps))

moved_left : (slots : List Slot) (i j place : ℕ) → i ≢ place → j ≢ place → (s : Slot)
    → slot_at (moved_slot i j slots s) place ≡ slot_at slots place
moved_left slots i j place from to None = refl
moved_left slots i j place from to (Some node) =
    get_or-set_other (slice_set slots i None) j place (Some node) None (λ e. to (sym e))
    ∙ get_or-set_other slots i place None None (λ e. from (sym e))

after_left : (slots : List Slot) (s : Step) (place : ℕ) → Leaves place s → slot_at (slots_after slots s) place ≡ slot_at slots place
after_left slots (step.Set i s) place left = get_or-set_other slots i place s None (λ e. left (sym e))
after_left slots (step.Move i j) place left = moved_left slots i j place left.0 left.1 (slot_at slots i)
after_left slots step.Other place left = refl

fold_same : (steps : List Step) (place : ℕ) → IsLeft steps place → (places : List ℕ) (slots : List Slot)
    → slot_at (fold slots_after slots (map (step_at steps) places)) place ≡ slot_at slots place
fold_same steps place left [] slots = refl
fold_same steps place left (k ∷ places) slots =
    fold_same steps place left places (slots_after slots (step_at steps k))
    ∙ after_left slots (step_at steps k) place (leaves_at steps place left k)

-- the same by ids
pub same_shown : (order : List ℕ) (steps : List Step) (slots : List Slot) (places : List ℕ) (id : ℕ) → IsIdLeft order steps id
    → slot_at (slots_by_path order (fold slots_after slots (map (step_at steps) places))) id ≡ slot_at (slots_by_path order slots) id
same_shown order steps slots places zero left = refl
same_shown order steps slots places (suc k) left =
    let after = fold slots_after slots (map (step_at steps) places) in
    ⊎_elim
    (λ (low : k < length order).
    get_or-map (slot_at after) order k 0 None low
    ∙ fold_same steps (kept_at order k) (left (kept_at order k) (slice_get-get_or order k 0 low)) places slots
    ∙ sym (get_or-map (slot_at slots) order k 0 None low))
    (λ (high : length order ≤ k).
    get_or_past (map (slot_at after) order) k None (let l = length-map order (slot_at after) in omega (arith, l, high))
    ∙ sym (get_or_past (map (slot_at slots) order) k None (let l = length-map order (slot_at slots) in omega (arith, l, high))))
    (cases_lt k (length order))

-- there are no more entries than slots
standing_low : (slots : List Slot) (i : ℕ) → count_standing slots i ≤ i
standing_low slots zero = omega arith
standing_low slots (suc i) = ⊎_elim
    (λ (here : is_entry (slot_at slots i) ≡ true).
    (let one : ◌≡◌ {A = ℕ} (cond (is_entry (slot_at slots i)) 1 0) 1 = ap (λ b. cond b 1 0) here in let rest = standing_low slots i in
    omega (arith, one, rest)))
    (λ (gone : is_entry (slot_at slots i) ≡ false).
    (let none : ◌≡◌ {A = ℕ} (cond (is_entry (slot_at slots i)) 1 0) 0 = ap (λ b. cond b 1 0) gone in let rest = standing_low slots i in
    omega (arith, none, rest)))
    (cases_Bool (is_entry (slot_at slots i)))

-- ---- the order of a state

there : {X : Type 0} (xs : List X) (k : ℕ) → k < length xs → (x : X) × (slice_get xs k ≡ Some x)
there [] k low = absurd (omega (arith, low))
there (x ∷ xs) zero low = (x, refl)
there (x ∷ xs) (suc k) low = there xs k (omega (arith, low))

module _ (parts : Parts) (whole : AreParts parts) (places : List ℕ)
    (allowed : IsAllowed (needs_of parts.micros) (length parts.micros.ops) places) (moved : ℕ)
    (counted : moved ≡ moves_kept parts.micros.ops places) where
  pub order_low : moved < length parts.shares.paths.orders.items
  order_low =
      let few = moves_low parts.micros places allowed in
      let same = ap length whole.shares.paths.moves in
      let long = whole.shares.paths.long in
      omega (arith, few, same, long, counted)

  pub ids_low : moved < length parts.shares.ids.items
  ids_low = (let low = order_low in let long = whole.shares.ids.long in omega (arith, low, long))

  pub order_there : (o : PathOrder) × (slice_get parts.shares.paths.orders.items moved ≡ Some o)
  order_there = there parts.shares.paths.orders.items moved order_low

  pub ids_there : (k : KeptIds) × (slice_get parts.shares.ids.items moved ≡ Some k)
  ids_there = there parts.shares.ids.items moved ids_low

module _ (parts : Parts) (places : List ℕ) (moved : ℕ) (own : List Own) (h : IsState parts places moved own) where
  abbrev after : List Slot
  after = slots_left parts.tables places

  abbrev shown : List Slot
  shown = slots_shown parts places moved

  module _ (o : PathOrder) (at : slice_get parts.shares.paths.orders.items moved ≡ Some o) where
    pub is_order : IsPathOrder parts.tables.entries.items (length parts.tables.directories.items)
        (positions_of parts.micros.ops parts.tables moved) o
    is_order = h.whole.shares.paths.each moved o at

    pub places_are : places_by_path parts.shares moved ≡ o.places.items
    places_are = ap (λ (w : Option PathOrder). option_map_or (λ o. o.places.items) w []) at

    pub ids_are : ids_by_path parts.shares moved ≡ o.ids.items
    ids_are = ap (λ (w : Option PathOrder). option_map_or (λ o. o.ids.items) w []) at

    pub shown_is : shown ≡ slots_by_path o.places.items after
    shown_is = ap (λ ps. slots_by_path ps after) places_are

    pub slots_long : length parts.tables.slots.items ≡ length parts.tables.entries.items
    slots_long = h.whole.whole.atlas.long

    pub places_long : length o.places.items ≡ length parts.tables.slots.items
    places_long = is_order.each.long ∙ sym slots_long

    pub inside_slots : All (λ place. place < length parts.tables.slots.items) o.places.items
    inside_slots = subst (λ n. All (λ place. place < n) o.places.items) (sym slots_long) is_order.each.low

    pub shown_long : length shown ≡ length parts.tables.slots.items + 1
    shown_long =
        let same = ap length shown_is in
        let l = length-map o.places.items (slot_at after) in
        let p = places_long in
        omega (arith, same, l, p)

    -- an entry's id
    pub id_inside : (place : ℕ) → place < length parts.tables.entries.items
        → kept_at o.ids.items place < length parts.tables.slots.items + 1
    id_inside place low =
        let w = place_there (length parts.tables.entries.items) o.places.items is_order.each place low in
        let back = is_order.back.back w.0 w.1 in
        let same : kept_at o.ids.items (kept_at o.places.items w.0) ≡ kept_at o.ids.items place = ap (kept_at o.ids.items) w.2 in
        let lower = w.1 in
        let p = places_long in
        omega (arith, back, same, lower, p)

    pub id_is : (k place : ℕ) → k < length o.places.items → kept_at o.places.items k ≡ place → kept_at o.ids.items place ≡ suc k
    id_is k place low same =
        let back = is_order.back.back k low in
        let e : kept_at o.ids.items (kept_at o.places.items k) ≡ kept_at o.ids.items place = ap (kept_at o.ids.items) same in
        omega (arith, back, e)

    module _ (ks : KeptIds) (kept : slice_get parts.shares.ids.items moved ≡ Some ks) where
      pub are_ids : AreIds parts.tables o.places.items ks
      are_ids = h.whole.shares.ids.each moved o ks at kept

      kept_are : ids_kept parts.shares moved ≡ ks.kept.items
      kept_are = ap (λ (w : Option KeptIds). option_map_or (λ k. k.kept.items) w []) kept

      pub shared : IsShared shown ks.kept.items own
      shared = subst (λ k. IsShared shown k own) kept_are h.shared

      pub count_is : length ks.kept.items + length own ≡ count_standing shown (length shown)
      count_is = counted shown ks.kept.items own shared

      pub own_few : length own < 2 ^ 32
      own_few =
          (let c = count_is in let low = standing_low shown (length shown) in let l = shown_long in let few = are_ids.few in
          omega (arith, c, low, l, few))

      pub id_low : (id : ℕ) → HasId ks.kept.items own id → id < length parts.tables.slots.items + 1
      id_low id has = subst (λ n. id < n) shown_long (stands_inside shown id (shared.there id has))

      pub kept_low : (k : ℕ) → k < length ks.kept.items → kept_at ks.kept.items k < length o.places.items + 1
      kept_low k low =
          (let l = id_low (kept_at ks.kept.items k) (inl (k, low, refl)) in let p = places_long in omega (arith, l, p))

      pub found_slot : (f : Found) → IsFound ks.kept.items (slots_by_path o.places.items parts.tables.slots.items) own f
          → f.slot ≡ slot_at shown f.id
      found_slot f is = ⊎_elim
          (λ (w : IsKept ks.kept.items f.id × (f.slot ≡ slot_at (slots_by_path o.places.items parts.tables.slots.items) f.id)).
          let left = subst (IsIdLeft o.places.items parts.tables.steps.items) w.0.2 (are_ids.kept_left w.0.0 w.0.1) in
          w.1 ∙ sym (ap (λ ss. slot_at ss f.id) shown_is
          ∙ same_shown o.places.items parts.tables.steps.items parts.tables.slots.items places f.id left))
          (λ (w : (k : ℕ) × (k < length own) × ((own_in_place own k).id ≡ f.id) × ((own_in_place own k).slot ≡ f.slot)).
          sym w.3 ∙ shared.same w.0 w.1 ∙ ap (slot_at shown) w.2)
          is

      found_id : (f : Found) → IsFound ks.kept.items (slots_by_path o.places.items parts.tables.slots.items) own f
          → HasId ks.kept.items own f.id
      found_id f is = ⊎_elim
          (λ (w : IsKept ks.kept.items f.id × (f.slot ≡ slot_at (slots_by_path o.places.items parts.tables.slots.items) f.id)). inl w.0)
          (λ (w : (k : ℕ) × (k < length own) × ((own_in_place own k).id ≡ f.id) × ((own_in_place own k).slot ≡ f.slot)).
          inr (w.0, w.1, w.2))
          is

      pub found_number : (f : Found) (n : ℕ) → IsFound ks.kept.items (slots_by_path o.places.items parts.tables.slots.items) own f
          → number_in ks.kept.items own f.id ≡ n → number_of_id shown f.id ≡ Some n
      found_number f n is number = has_number shown ks.kept.items own shared f.id n (found_id f is) number

      pub id_number : (r : Option ℕ) (id : ℕ) → ((n : ℕ) → r ≡ Some n → HasId ks.kept.items own id × (number_in ks.kept.items own id ≡ n))
          → (r ≡ None → HasId ks.kept.items own id → ⊥) → r ≡ number_of_id shown id
      id_number None id some none = sym (has_none shown ks.kept.items own shared id (none refl))
      id_number (Some n) id some none = (let w = some n refl in sym (has_number shown ks.kept.items own shared id n w.0 w.1))
