-- What is found once of a trace for an order of paths, and what a state gathers from it.
use Rattle.std.proofs.Common.{◌≡◌, ℕ, zero, suc, ◌+◌, ◌<◌, ◌≤◌, ◌^◌, ◌&&◌, not, Bool, true, false, List, [], ◌∷◌, ◌⊎◌, inl, inr, None, Some, refl, sym}
use Rattle.std.proofs.Common.{ap, ◌∙◌, subst, arith, ⊎_elim, length, map, slice_get}
use Rattle.std.proofs.lemmas.Bool.{cases_Bool, cases_lt, false≢true}
use Rattle.std.proofs.lemmas.List.{get_or-map, get_or_past, length-map}
use Rattle.std.proofs.lemmas.Option.{get_or_from_slice_get, slice_get-get_or}
use Rattle.std.specs.List.{All}
use Rattle.std.specs.Option.{is_some, option_map_or}
use Rattle.cs_apm.specs.Atlases.{atlas_in}
use Rattle.cs_apm.specs.Orders.{needs_of}
use Rattle.cs_apm.specs.Slots.{Slot, slot_at}
use Rattle.cs_apm.specs.declared.tables.Tables.{Tables}
use Rattle.cs_apm.proofs.Building.{inside_steps, long_left}
use Rattle.cs_paths.specs.declared.path_order.PathOrder.{PathOrder}
use Rattle.cs_paths.specs.Marks.{count_with_key_below, kept_at, mark_at, numbers_that_pass, IsKept}
use Rattle.cs_paths.specs.PathOrders.{ArePlaces, marks_by_path, moves_kept, place_of_id, slots_by_path}
use Rattle.cs_paths.proofs.Listing.{below_ids, ids_are, ids_have, ids_up}
use Rattle.cs_sets.specs.Sets.{IsAllowed}
use Rattle.cs_state.specs.declared.kept_ids.KeptIds.{KeptIds}
use Rattle.cs_state.specs.declared.numbers.Own.{Own}
use Rattle.cs_state.specs.declared.parts.Parts.{Parts}
use Rattle.cs_state.specs.Parts.{AreParts, IsState}
use Rattle.cs_state.specs.Shares.{is_entry, is_in_every_state, ids_kept, slots_left}
use Rattle.cs_state.specs.Shares.{AreForOrders, AreIds, IsIdLeft, IsIdTouched, IsShared}
use Rattle.cs_state.specs.Merging.{own_from}
use Rattle.cs_state.proofs.Counting.{below_length}
use Rattle.cs_state.proofs.Owning.{shared_of}
use Rattle.cs_state.proofs.Sharing.{same_shown}
use Rattle.cs_state.proofs.Standing.{stands_inside}

both_parts : (a b : Bool) → (not a && b) ≡ true → (a ≡ false) × (b ≡ true)
both_parts true b h = absurd (false≢true h)
both_parts false b h = (refl, h)

both_true : (a b : Bool) → a ≡ false → b ≡ true → (not a && b) ≡ true
both_true true b x y = absurd (false≢true (sym x))
both_true false b x y = y

-- ascending numbers below n are no more than n
at_least : (xs : List ℕ) → ((i j : ℕ) → i < j → j < length xs → kept_at xs i < kept_at xs j) → (k : ℕ) → k < length xs → k ≤ kept_at xs k
at_least xs up zero low = omega arith
at_least xs up (suc k) low =
    (let rest = at_least xs up k (omega (arith, low)) in let more = up k (suc k) (omega arith) low in omega (arith, rest, more))

as_few : (xs : List ℕ) (n : ℕ) → ((i j : ℕ) → i < j → j < length xs → kept_at xs i < kept_at xs j)
    → ((k : ℕ) → k < length xs → kept_at xs k < n) → length xs ≤ n
as_few [] n up below = omega arith
as_few (x ∷ xs) n up below =
    (let last = at_least (x ∷ xs) up (length xs) (omega arith) in let low = below (length xs) (omega arith) in omega (arith, last, low))

-- ---- marks by ids

-- the id of a place, whose mark this is
id_marked : (places : List ℕ) (marks : List Bool) (id place : ℕ) → place_of_id places id ≡ Some place
    → mark_at (marks_by_path places marks) id ≡ mark_at marks place
id_marked places marks zero place is = absurd (false≢true (ap is_some is))
id_marked places marks (suc k) place is = ⊎_elim
    (λ (low : k < length places).
    get_or-map (mark_at marks) places k 0 false low ∙ ap (mark_at marks) (get_or_from_slice_get places k place 0 is))
    (λ (high : length places ≤ k). absurd (false≢true (ap is_some (sym (past places k high) ∙ is))))
    (cases_lt k (length places))
  where
    past : (xs : List ℕ) (k : ℕ) → length xs ≤ k → slice_get xs k ≡ None
    past [] k high = refl
    past (x ∷ xs) zero high = absurd (omega (arith, high))
    past (x ∷ xs) (suc k) high = past xs k (omega (arith, high))

-- an id that is marked is that of a place
marked_place : (places : List ℕ) (marks : List Bool) (id : ℕ) → mark_at (marks_by_path places marks) id ≡ true
    → (place : ℕ) × (place_of_id places id ≡ Some place) × (mark_at marks place ≡ true)
marked_place places marks zero is = absurd (false≢true is)
marked_place places marks (suc k) is = ⊎_elim
    (λ (low : k < length places).
    (kept_at places k, slice_get-get_or places k 0 low, sym (get_or-map (mark_at marks) places k 0 false low) ∙ is))
    (λ (high : length places ≤ k). absurd
    (false≢true
    (sym (get_or_past (map (mark_at marks) places) k false (let l = length-map places (mark_at marks) in omega (arith, l, high)))
    ∙ is)))
    (cases_lt k (length places))

-- ---- the lists of an order

module _ (tables : Tables) (marks : List Bool) (places : List ℕ) (shared : AreForOrders tables marks)
    (each : ArePlaces (length tables.entries.items) places) where
  abbrev slots : List Slot
  slots = slots_by_path places tables.slots.items

  abbrev by_path : List Bool
  by_path = marks_by_path places marks

  abbrev test : ℕ → Bool
  test = is_in_every_state by_path slots

  pub slots_many : length slots ≡ length tables.slots.items + 1
  slots_many =
      let l = length-map places (slot_at tables.slots.items) in
      let e = each.long in
      let s = shared.long in
      omega (arith, l, e, s)

  pub marks_many : length by_path ≡ length slots
  marks_many =
      let l = length-map places (mark_at marks) in
      let e = each.long in
      let s = shared.long in
      let m = slots_many in
      omega (arith, l, e, s, m)

  left : (id : ℕ) → mark_at by_path id ≡ false → IsIdLeft places tables.steps.items id
  left id gone = λ place at. shared.left place (sym (id_marked places marks id place at) ∙ gone)

  touched_by : (id : ℕ) → mark_at by_path id ≡ true → IsIdTouched places tables.steps.items id
  touched_by id here = (let w = marked_place places marks id here in (w.0, w.1, shared.touched w.0 w.2))

  module _ (ks : KeptIds) (kept : ks.kept.items ≡ numbers_that_pass test (length slots))
      (touched : ks.touched.items ≡ numbers_that_pass (mark_at by_path) (length by_path))
      (counted : length ks.kept_below.items ≡ length slots)
      (below : (id : ℕ) → id < length slots → kept_at ks.kept_below.items id ≡ length (numbers_that_pass test id)) where
    kept_are : (k : ℕ) → k < length ks.kept.items → (mark_at by_path (kept_at ks.kept.items k) ≡ false)
        × (is_entry (slot_at slots (kept_at ks.kept.items k)) ≡ true)
    kept_are =
        subst (λ xs. (k : ℕ) → k < length xs → (mark_at by_path (kept_at xs k) ≡ false) × (is_entry (slot_at slots (kept_at xs k)) ≡ true))
        (sym kept)
        (λ k low. both_parts (mark_at by_path (kept_at (numbers_that_pass test (length slots)) k))
        (is_entry (slot_at slots (kept_at (numbers_that_pass test (length slots)) k))) (ids_are test (length slots) k low).1)

    touched_are : (k : ℕ) → k < length ks.touched.items → (kept_at ks.touched.items k < length by_path)
        × (mark_at by_path (kept_at ks.touched.items k) ≡ true)
    touched_are =
        subst (λ xs. (k : ℕ) → k < length xs → (kept_at xs k < length by_path) × (mark_at by_path (kept_at xs k) ≡ true)) (sym touched)
        (ids_are (mark_at by_path) (length by_path))

    pub ids_of_order : AreIds tables places ks
    ids_of_order = record {
      few = shared.few;
      kept_up = subst (λ xs. (i j : ℕ) → i < j → j < length xs → kept_at xs i < kept_at xs j) (sym kept) (ids_up test (length slots));
      kept_stand = λ k low. (kept_are k low).1;
      kept_left = λ k low. left (kept_at ks.kept.items k) (kept_are k low).0;
      counted = counted ∙ slots_many;
      below = λ id low. (let l = slots_many in below id (omega (arith, low, l)) ∙ sym
          (ap (λ xs. count_with_key_below (λ k. k) xs id) kept ∙ below_ids test (length slots) id (omega (arith, low, l))));
      touched_up =
          subst (λ xs. (i j : ℕ) → i < j → j < length xs → kept_at xs i < kept_at xs j) (sym touched)
          (ids_up (mark_at by_path) (length by_path));
      touched_low = λ k low. subst (λ n. kept_at ks.touched.items k < n) (marks_many ∙ slots_many) (touched_are k low).0;
      touched_by = λ k low. touched_by (kept_at ks.touched.items k) (touched_are k low).1;
      apart = λ i j low high e. false≢true (sym (kept_are i low).0 ∙ ap (mark_at by_path) e ∙ (touched_are j high).1);
      known = λ id low. (let l = slots_many in let n = marks_many in ⊎_elim
          (λ (mark : mark_at by_path id ≡ true). inl
          (inr (subst (λ xs. IsKept xs id) (sym touched)
          (ids_have (mark_at by_path) (length by_path) id (omega (arith, low, l, n)) mark))))
          (λ (mark : mark_at by_path id ≡ false). ⊎_elim
          (λ (stand : is_entry (slot_at slots id) ≡ true). inl
          (inl (subst (λ xs. IsKept xs id) (sym kept)
          (ids_have test (length slots) id (omega (arith, low, l))
          (both_true (mark_at by_path id) (is_entry (slot_at slots id)) mark stand)))))
          (λ (gone : is_entry (slot_at slots id) ≡ false). inr (gone, left id mark))
          (cases_Bool (is_entry (slot_at slots id))))
          (cases_Bool (mark_at by_path id)));
    }

-- ---- the entries of a state

module _ (parts : Parts) (h : AreParts parts) (places : List ℕ)
    (allowed : IsAllowed (needs_of parts.micros) (length parts.micros.ops) places) where
  abbrev after : List Slot
  after = slots_left parts.tables places

  pub after_long : length after ≡ length parts.tables.slots.items
  after_long = long_left parts.trace parts.micros (atlas_in parts.tables) h.whole.atlas places allowed ∙ sym h.whole.atlas.long

  pub members_inside : All (λ place. place < length parts.tables.steps.items) places
  members_inside = inside_steps parts.trace parts.micros (atlas_in parts.tables) h.whole.atlas places allowed

  module _ (moved : ℕ) (o : PathOrder) (at : slice_get parts.shares.paths.orders.items moved ≡ Some o) (ks : KeptIds)
      (kept : slice_get parts.shares.ids.items moved ≡ Some ks) where
    are : AreIds parts.tables o.places.items ks
    are = h.shares.ids.each moved o ks at kept

    abbrev shown : List Slot
    shown = slots_by_path o.places.items after

    pub places_long : length o.places.items ≡ length parts.tables.slots.items
    places_long = (h.shares.paths.each moved o at).each.long ∙ sym h.whole.atlas.long

    pub places_low : All (λ place. place < length after) o.places.items
    places_low =
        subst (λ n. All (λ place. place < n) o.places.items) (sym (after_long ∙ h.whole.atlas.long))
        (h.shares.paths.each moved o at).each.low

    shown_many : length shown ≡ length parts.tables.slots.items + 1
    shown_many = (let l = length-map o.places.items (slot_at after) in let p = places_long in omega (arith, l, p))

    start_many : length (slots_by_path o.places.items parts.tables.slots.items) ≡ length parts.tables.slots.items + 1
    start_many =
        (let l = length-map o.places.items (slot_at parts.tables.slots.items) in let p = places_long in omega (arith, l, p))

    same_slot : (id : ℕ) → IsIdLeft o.places.items parts.tables.steps.items id
        → slot_at shown id ≡ slot_at (slots_by_path o.places.items parts.tables.slots.items) id
    same_slot id left = same_shown o.places.items parts.tables.steps.items parts.tables.slots.items places id left

    known : (id : ℕ) → is_entry (slot_at shown id) ≡ true → IsKept ks.kept.items id ⊎ IsKept ks.touched.items id
    known id stand = ⊎_elim
        (λ (w : IsKept ks.kept.items id ⊎ IsKept ks.touched.items id). w)
        (λ (w : (is_entry (slot_at (slots_by_path o.places.items parts.tables.slots.items) id) ≡ false)
        × IsIdLeft o.places.items parts.tables.steps.items id). absurd
        (false≢true (sym w.0 ∙ sym (ap is_entry (same_slot id w.1)) ∙ stand)))
        (are.known id (subst (λ n. id < n) shown_many (stands_inside shown id stand)))

    shared_all : IsShared shown ks.kept.items (own_from ks.kept_below.items ks.touched.items shown 0)
    shared_all = shared_of ks.kept.items ks.kept_below.items shown ks.touched.items
        (λ k low. are.below (kept_at ks.touched.items k) (are.touched_low k low))
        are.kept_up are.touched_up are.apart
        (λ k low. ap is_entry (same_slot (kept_at ks.kept.items k) (are.kept_left k low)) ∙ are.kept_stand k low)
        known

    pub made_state : moved ≡ moves_kept parts.micros.ops places → (own : List Own)
        → own ≡ own_from ks.kept_below.items ks.touched.items shown 0 → IsState parts places moved own
    made_state counted own is = record {
      whole = h;
      allowed = allowed;
      counted = counted;
      shared =
          subst (λ ps. IsShared (slots_by_path ps after) (ids_kept parts.shares moved) own)
          (sym (ap (λ w. option_map_or (λ (p : PathOrder). p.places.items) w []) at))
          (subst (λ k. IsShared shown k own) (sym (ap (λ w. option_map_or (λ (k : KeptIds). k.kept.items) w []) kept))
          (subst (IsShared shown ks.kept.items) (sym is) shared_all));
    }

    -- ids that are there, and numbers that fit
    pub touched_inside : (k : ℕ) → k < length ks.touched.items → kept_at ks.touched.items k < length o.places.items + 1
    touched_inside k low = (let l = are.touched_low k low in let p = places_long in omega (arith, l, p))

    pub counted_long : length ks.kept_below.items ≡ length o.places.items + 1
    counted_long = (let c = are.counted in let p = places_long in omega (arith, c, p))

    pub few_numbers : (k : ℕ) → k < length ks.touched.items
        → kept_at ks.kept_below.items (kept_at ks.touched.items k) + length ks.touched.items < 2 ^ 32
    few_numbers k low =
        let id = kept_at ks.touched.items k in
        let before = are.below id (are.touched_low k low) in
        let most = below_length (λ i. i) ks.kept.items id in
        let m = start_many in
        let kept =
        as_few ks.kept.items (length (slots_by_path o.places.items parts.tables.slots.items)) are.kept_up
        (λ j l. stands_inside (slots_by_path o.places.items parts.tables.slots.items) (kept_at ks.kept.items j) (are.kept_stand j l)) in
        let touched = as_few ks.touched.items (length parts.tables.slots.items + 1) are.touched_up are.touched_low in
        let few = are.few in
        omega (arith, before, most, kept, touched, few, m)
