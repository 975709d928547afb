-- The listed slots after the steps of a set, compared with all slots.
use Rattle.std.proofs.Common.{◌≡◌, ◌≢◌, ℕ, zero, suc, ◌<◌, ◌≤◌, ◌⊎◌, inl, inr, List, [], ◌∷◌, length, map, get_or, refl, sym, ap}
use Rattle.std.proofs.Common.{◌∙◌, subst, arith, ⊎_elim, None, Some}
use Rattle.std.proofs.lemmas.Bool.{cases_eq, cases_lt}
use Rattle.std.proofs.lemmas.List.{get_or-map, get_or-set_other, get_or-set_same, get_or_default, get_or_past, length-map, length-set}
use Rattle.std.specs.List.{All}
use Rattle.std.specs.Prelude.{fold, slice_set}
use Rattle.cs_entries.specs.declared.entry.Entry.{Entry}
use Rattle.cs_micro.specs.declared.micro_op.MicroOp.{MicroOp}
use Rattle.cs_apm.specs.Slots.{AreSteps, FitsIn, Slot, moved_slot, slot_at, slots_after, step_at}
use Rattle.cs_apm.specs.declared.slot.Step.{Step}
use Rattle.cs_apm.specs.declared.slot.Step.TheVariants.{Set, Move, Other}
use Rattle.cs_same_states.specs.Places.{AreDistinct, AreListed, HasRank, IsRenumbered, IsUnlisted, id_at}
use Rattle.cs_same_states.specs.declared.touched.Touched.{Touched}

-- there is a step for each operation
pub steps_long : (entries : List Entry) (ops : List MicroOp) (steps : List Step) → AreSteps entries ops steps → length steps ≡ length ops
steps_long entries [] [] h = refl
steps_long entries [] (s ∷ steps) h = absurd h
steps_long entries (o ∷ ops) [] h = absurd h
steps_long entries (o ∷ ops) (s ∷ steps) h = ap suc (steps_long entries ops steps h.1)

-- a slot is listed, or it isn't
pub listed_or_not : (ids : List ℕ) (id : ℕ) → ((r : ℕ) × HasRank ids id r) ⊎ IsUnlisted ids id
listed_or_not [] id = inr (λ r low e. absurd (omega (arith, low)))
listed_or_not (x ∷ ids) id = by (cases_eq x id) (listed_or_not ids id)
  where
    by : (x ≡ id) ⊎ (x ≢ id) → ((r : ℕ) × HasRank ids id r) ⊎ IsUnlisted ids id → ((r : ℕ) × HasRank (x ∷ ids) id r)
        ⊎ IsUnlisted (x ∷ ids) id
    by (inl e) rest = inl (zero, (omega arith, e))
    by (inr ne) (inl w) = inl (suc w.0, ((let l = w.1.0 in omega (arith, l)), w.1.1))
    by (inr ne) (inr none) = inr (λ r. go r)
      where
        go : (r : ℕ) → r < length (x ∷ ids) → id_at (x ∷ ids) r ≡ id → ⊥
        go zero low e = ne e
        go (suc r) low e = none r (omega (arith, low)) e

fits_at : (n : ℕ) (steps : List Step) → All (FitsIn n) steps → (k : ℕ) → FitsIn n (step_at steps k)
fits_at n steps fit k = ⊎_elim
    (λ (low : k < length steps). fit k Other low)
    (λ (high : length steps ≤ k). subst (FitsIn n) (sym (get_or_past steps k Other high)) tt)
    (cases_lt k (length steps))

module _ (ids : List ℕ) (distinct : AreDistinct ids) (slots : List Slot) where
  -- what is in each listed slot is at its place, and what isn't listed stays
  record IsBeside (full few : List Slot) : Type 0 where
    pub long : length full ≡ length slots
    pub short : length few ≡ length ids
    pub same : (r : ℕ) → r < length ids → slot_at few r ≡ slot_at full (id_at ids r)
    pub rest : (id : ℕ) → IsUnlisted ids id → slot_at full id ≡ slot_at slots id

  set_both : (full few : List Slot) (i r : ℕ) (s : Slot) → HasRank ids i r → i < length slots → IsBeside full few
      → IsBeside (slice_set full i s) (slice_set few r s)
  set_both full few i r s rank low h = record {
    long = length-set full i s ∙ h.long;
    short = length-set few r s ∙ h.short;
    same = λ q in_ids. ⊎_elim
        (λ (e : q ≡ r).
        ap (slot_at (slice_set few r s)) e ∙ get_or-set_same few r s None (let l = h.short in let k = rank.0 in omega (arith, l, k))
        ∙ sym (ap (slot_at (slice_set full i s)) (ap (id_at ids) e ∙ rank.1) ∙ get_or-set_same full i s None
        (let l = h.long in omega (arith, l, low))))
        (λ (e : q ≢ r).
        get_or-set_other few r q s None e ∙ h.same q in_ids
        ∙ sym (get_or-set_other full i (id_at ids q) s None
        (λ (same : id_at ids q ≡ i). e (distinct q r in_ids rank.0 (same ∙ sym rank.1)))))
        (cases_eq q r);
    rest = λ id none. get_or-set_other full i id s None (λ (same : id ≡ i). none r rank.0 (rank.1 ∙ sym same)) ∙ h.rest id none;
  }

  moved_both : (full few : List Slot) (i j r q : ℕ) (s : Slot) → HasRank ids i r → HasRank ids j q → i < length slots → j < length slots
      → IsBeside full few → IsBeside (moved_slot i j full s) (moved_slot r q few s)
  moved_both full few i j r q None from to low high h = h
  moved_both full few i j r q (Some node) from to low high h =
      set_both (slice_set full i None) (slice_set few r None) j q (Some node) to high (set_both full few i r None from low h)

  stands_same : (full few : List Slot) (i r : ℕ) → HasRank ids i r → IsBeside full few → slot_at full i ≡ slot_at few r
  stands_same full few i r rank h = ap (slot_at full) (sym rank.1) ∙ sym (h.same r rank.0)

  step_both : (o u : Step) (full few : List Slot) → IsRenumbered ids o u → FitsIn (length slots) o → IsBeside full few
      → IsBeside (slots_after full o) (slots_after few u)
  step_both (Set i s) (Set r u) full few is fits h =
      subst (λ v. IsBeside (slice_set full i s) (slice_set few r v)) is.1 (set_both full few i r s is.0 fits h)
  step_both (Move i j) (Move r q) full few is fits h =
      subst (λ v. IsBeside (moved_slot i j full (slot_at full i)) (moved_slot r q few v)) (stands_same full few i r is.0 h)
      (moved_both full few i j r q (slot_at full i) is.0 is.1 fits.0 fits.1 h)
  step_both Other Other full few is fits h = h
  step_both _ _ full few is fits h = absurd is

  module _ (steps made : List Step) (each : (k : ℕ) → IsRenumbered ids (step_at steps k) (step_at made k))
      (fit : All (FitsIn (length slots)) steps) where
    fold_both : (places : List ℕ) (full few : List Slot) → IsBeside full few
        → IsBeside (fold slots_after full (map (step_at steps) places)) (fold slots_after few (map (step_at made) places))
    fold_both [] full few h = h
    fold_both (k ∷ places) full few h =
        fold_both places (slots_after full (step_at steps k)) (slots_after few (step_at made k))
        (step_both (step_at steps k) (step_at made k) full few (each k) (fits_at (length slots) steps fit k) h)

-- ---- of what is listed

start_beside : (slots few : List Slot) (ids : List ℕ) → few ≡ map (slot_at slots) ids → (distinct : AreDistinct ids)
    → IsBeside ids distinct slots slots few
start_beside slots few ids is distinct = record {
  long = refl;
  short = ap length is ∙ length-map ids (slot_at slots);
  same = λ r low. ap (λ v. slot_at v r) is ∙ get_or-map (slot_at slots) ids r 0 None low;
  rest = λ id none. refl;
}

module _ (slots : List Slot) (steps : List Step) (touched : Touched) (are : AreListed slots steps touched)
    (fit : All (FitsIn (length slots)) steps) where
  pub as_many : length touched.slots.items ≡ length touched.ids.items
  as_many = ap length are.listed ∙ length-map touched.ids.items (slot_at slots)

  fits_few : (o u : Step) → IsRenumbered touched.ids.items o u → FitsIn (length touched.slots.items) u
  fits_few (Set i s) (Set r u) is = (let k = is.0.0 in let l = as_many in omega (arith, k, l))
  fits_few (Move i j) (Move r q) is =
      ((let k = is.0.0 in let l = as_many in omega (arith, k, l)), (let k = is.1.0 in let l = as_many in omega (arith, k, l)))
  fits_few Other Other is = tt
  fits_few _ _ is = absurd is

  pub fit_few : All (FitsIn (length touched.slots.items)) touched.steps.items
  fit_few k d low =
      subst (FitsIn (length touched.slots.items)) (sym (get_or_default touched.steps.items k d Other low))
      (fits_few (step_at steps k) (step_at touched.steps.items k) (are.renumbered.each k))

  module _ (places : List ℕ) where
    abbrev full_left : List Slot
    full_left = fold slots_after slots (map (step_at steps) places)

    abbrev few_left : List Slot
    few_left = fold slots_after touched.slots.items (map (step_at touched.steps.items) places)

    beside : IsBeside touched.ids.items are.renumbered.distinct slots full_left few_left
    beside = fold_both touched.ids.items are.renumbered.distinct slots steps touched.steps.items are.renumbered.each fit places slots
        touched.slots.items
        (start_beside slots touched.slots.items touched.ids.items are.listed are.renumbered.distinct)

    pub listed_left : (id r : ℕ) → HasRank touched.ids.items id r → slot_at full_left id ≡ slot_at few_left r
    listed_left id r rank = ap (slot_at full_left) (sym rank.1) ∙ sym (beside.same r rank.0)

    pub unlisted_left : (id : ℕ) → IsUnlisted touched.ids.items id → slot_at full_left id ≡ slot_at slots id
    unlisted_left id none = beside.rest id none

    pub few_long : length few_left ≡ length touched.ids.items
    few_long = beside.short
