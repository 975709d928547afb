-- How many slots have something: a state's numbers.
use Rattle.std.proofs.Common.{◌≡◌, ◌≢◌, ℕ, zero, suc, ◌+◌, ◌<◌, ◌≤◌, nat_lt, Bool, true, false, cond, List, [], ◌∷◌, inl, inr, None, Some, refl, sym}
use Rattle.std.proofs.Common.{ap, ◌∙◌, arith, ⊎_elim, length, get_or}
use Rattle.std.proofs.lemmas.Bool.{cases_eq, cases_lt, false≢true, le-ltb, cases_Bool}
use Rattle.std.proofs.lemmas.List.{get_or_past}
use Rattle.cs_apm.specs.Slots.{Slot, slot_at}
use Rattle.cs_state.specs.declared.numbers.Own.{Own}
use Rattle.cs_state.specs.Numbers.{count_with_key_below, empty_own, own_in_place, kept_at, number_in, HasId}
use Rattle.cs_state.specs.Shares.{is_entry, count_standing, number_of_id, IsShared}
use Rattle.cs_state.proofs.Counting.{below_at, below_past, below_split}

abbrev bit : Bool → ℕ
bit b = cond b 1 0

module _ {X : Type 0} (f : X → ℕ) where
  is_there : (xs : List X) (d : X) → ((i j : ℕ) → i < j → j < length xs → f (get_or xs i d) < f (get_or xs j d)) → (k i : ℕ) → k < length xs
      → f (get_or xs k d) ≡ i → count_with_key_below f xs (suc i) ≡ suc (count_with_key_below f xs i)
  is_there xs d up k i low is =
      let here = below_at f xs d up k low in
      let next = below_split f xs d (suc (f (get_or xs k d))) (suc k) (omega (arith, low))
      (λ j lt. ⊎_elim
      (λ (e : j ≡ k). (let s : f (get_or xs j d) ≡ f (get_or xs k d) = ap (λ v. f (get_or xs v d)) e in omega (arith, s)))
      (λ (e : j ≢ k). (let s = up j k (omega (arith, lt, e)) low in omega (arith, s)))
      (cases_eq j k))
      (λ j le lt. (let s = up k j (omega (arith, le)) lt in omega (arith, s))) in
      ap (λ v. count_with_key_below f xs (suc v)) (sym is) ∙ next ∙ ap suc (sym here) ∙ ap (λ v. suc (count_with_key_below f xs v)) is

module _ (slots : List Slot) (kept : List ℕ) (own : List Own) (h : IsShared slots kept own) where
  absent : (i : ℕ) → is_entry (slot_at slots i) ≡ false → HasId kept own i → ⊥
  absent i gone has = false≢true (sym gone ∙ h.there i has)

  -- as many entries are before an id as are below it in the two
  pub standing_number : (i : ℕ) → number_in kept own i ≡ count_standing slots i
  standing_number zero = (let a = zero_below (λ k. k) kept in let b = zero_below (λ (o : Own). o.id) own in omega (arith, a, b))
    where
      zero_below : {X : Type 0} (f : X → ℕ) (xs : List X) → count_with_key_below f xs 0 ≡ 0
      zero_below f [] = refl
      zero_below f (x ∷ xs) = (let a : nat_lt (f x) 0 ≡ false = le-ltb (f x) 0 (omega arith) in λ k. bit (a k) + zero_below f xs k)
  standing_number (suc i) =
      let so_far = standing_number i in
      ⊎_elim
      (λ (yes : is_entry (slot_at slots i) ≡ true).
      let one : bit (is_entry (slot_at slots i)) ≡ 1 = ap bit yes in
      ⊎_elim
      (λ (in_kept : (k : ℕ) × (k < length kept) × (kept_at kept k ≡ i)).
      let a = is_there (λ k. k) kept 0 h.merge.kept_up in_kept.0 i in_kept.1 in_kept.2 in
      let b = below_past (λ (o : Own). o.id) own empty_own i (λ j low e. h.merge.apart in_kept.0 j in_kept.1 low (in_kept.2 ∙ sym e)) in
      omega (arith, so_far, one, a, b))
      (λ (in_own : (k : ℕ) × (k < length own) × ((own_in_place own k).id ≡ i)).
      let a = is_there (λ (o : Own). o.id) own empty_own h.merge.own_up in_own.0 i in_own.1 in_own.2 in
      let b = below_past (λ k. k) kept 0 i (λ j low e. h.merge.apart j in_own.0 low in_own.1 (e ∙ sym in_own.2)) in
      omega (arith, so_far, one, a, b))
      (h.listed i yes))
      (λ (gone : is_entry (slot_at slots i) ≡ false).
      let zero_more : bit (is_entry (slot_at slots i)) ≡ 0 = ap bit gone in
      let a = below_past (λ k. k) kept 0 i (λ j low e. absent i gone (inl (j, low, e))) in
      let b = below_past (λ (o : Own). o.id) own empty_own i (λ j low e. absent i gone (inr (j, low, e))) in
      omega (arith, so_far, zero_more, a, b))
      (cases_Bool (is_entry (slot_at slots i)))

-- each entry is in a slot
pub stands_inside : (slots : List Slot) (i : ℕ) → is_entry (slot_at slots i) ≡ true → i < length slots
stands_inside slots i here = ⊎_elim
    (λ (low : i < length slots). low)
    (λ (high : length slots ≤ i). absurd (false≢true (sym (ap is_entry (get_or_past slots i None high)) ∙ here)))
    (cases_lt i (length slots))

-- as many as the two lists have
module _ (slots : List Slot) (kept : List ℕ) (own : List Own) (h : IsShared slots kept own) where
  pub counted : length kept + length own ≡ count_standing slots (length slots)
  counted =
      let all_kept =
      below_split (λ k. k) kept 0 (length slots) (length kept) (omega arith)
      (λ j low. stands_inside slots (kept_at kept j) (h.there (kept_at kept j) (inl (j, low, refl))))
      (λ j ge low. absurd (omega (arith, ge, low))) in
      let all_own =
      below_split (λ (o : Own). o.id) own empty_own (length slots) (length own) (omega arith)
      (λ j low. stands_inside slots (own_in_place own j).id (h.there (own_in_place own j).id (inr (j, low, refl))))
      (λ j ge low. absurd (omega (arith, ge, low))) in
      let all = standing_number slots kept own h (length slots) in
      omega (arith, all_kept, all_own, all)

  -- what the lists have has the number of its slot
  pub has_number : (id n : ℕ) → HasId kept own id → number_in kept own id ≡ n → number_of_id slots id ≡ Some n
  has_number id n has is =
      ap (λ b. cond b (Some (count_standing slots id)) None) (h.there id has) ∙ ap Some (sym (standing_number slots kept own h id) ∙ is)

  pub has_none : (id : ℕ) → (HasId kept own id → ⊥) → number_of_id slots id ≡ None
  has_none id not = by (is_entry (slot_at slots id)) refl
    where
      by : (b : Bool) → is_entry (slot_at slots id) ≡ b → number_of_id slots id ≡ None
      by true here = absurd (not (h.listed id here))
      by false gone = ap (λ b. cond b (Some (count_standing slots id)) None) gone
