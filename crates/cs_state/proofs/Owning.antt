-- What a state has of its own merges with what all states share.
use Rattle.std.proofs.Common.{◌≡◌, ◌≢◌, ℕ, zero, suc, ◌+◌, ◌<◌, ◌≤◌, Bool, true, false, cond, List, [], ◌∷◌, ◌++◌, ◌⊎◌, inl, inr, refl, sym}
use Rattle.std.proofs.Common.{ap, ◌∙◌, subst, arith, ⊎_elim, length, drop, append_assoc, length-append}
use Rattle.std.proofs.lemmas.Bool.{cases_Bool}
use Rattle.std.proofs.lemmas.List.{drop_more}
use Rattle.cs_apm.specs.Slots.{Slot}
use Rattle.cs_apm.specs.Slots.{slot_at}
use Rattle.cs_state.specs.declared.numbers.Own.{Own}
use Rattle.cs_state.specs.Numbers.{own_in_place, count_with_key_below, kept_at, IsKept, IsMerge, IsOwn}
use Rattle.cs_state.specs.Shares.{is_entry, IsShared}
use Rattle.cs_state.specs.Merging.{own_from, own_one}

-- ---- one touched id more

one_long : (id before : ℕ) (slot : Slot) (n : ℕ) → length (own_one id before slot n) ≡ cond (is_entry slot) 1 0
one_long id before slot n = by (is_entry slot)
  where
    by : (b : Bool) → length {A = Own} (cond b (record { id = id; number = before + n; slot = slot } ∷ []) []) ≡ cond b 1 0
    by true = refl
    by false = refl

module _ (counts touched : List ℕ) (slots : List Slot) (k : ℕ) (low : k < length touched) (old now whole : List Own) where
  abbrev t : ℕ
  t = kept_at touched k

  abbrev one : List Own
  one = own_one t (kept_at counts t) (slot_at slots t) (length old)

  module _ (pushed : now ≡ old ++ one) where
    pub longer : length now ≡ length old + cond (is_entry (slot_at slots t)) 1 0
    longer = ap length pushed ∙ length-append old one ∙ ap (λ n. length old + n)
        (one_long t (kept_at counts t) (slot_at slots t) (length old))

    pub one_longer : length old ≤ k → length now ≤ k + 1
    one_longer le = (let l = longer in let m = at_most (is_entry (slot_at slots t)) in omega (arith, l, m, le))
      where
        at_most : (b : Bool) → length old + cond b 1 0 ≤ length old + 1
        at_most true = omega arith
        at_most false = omega arith

    pub goes_on : old ++ own_from counts (drop k touched) slots (length old) ≡ whole
        → now ++ own_from counts (drop (k + 1) touched) slots (length now) ≡ whole
    goes_on so_far =
        (λ i. pushed i ++ own_from counts (drop (k + 1) touched) slots (longer i))
        ∙ append_assoc old one (own_from counts (drop (k + 1) touched) slots (length old + cond (is_entry (slot_at slots t)) 1 0))
        ∙ ap (λ w. old ++ w) (sym (ap (λ ts. own_from counts ts slots (length old)) (drop_more touched k 0 low)))
        ∙ so_far

-- ---- each of them

module _ (kept counts : List ℕ) (slots : List Slot) where
  record IsOwnAt (ts : List ℕ) (n j : ℕ) (o : Own) : Type 0 where
    place : ℕ
    there : place < length ts
    id : o.id ≡ kept_at ts place
    number : o.number ≡ count_with_key_below (λ k. k) kept o.id + (n + j)
    here : is_entry (slot_at slots o.id) ≡ true
    slot : o.slot ≡ slot_at slots o.id

  abbrev AreBelow : List ℕ → Type 0
  AreBelow ts = (k : ℕ) → k < length ts → kept_at counts (kept_at ts k) ≡ count_with_key_below (λ i. i) kept (kept_at ts k)

  abbrev own_at : ℕ → ℕ → Own
  own_at t n = record { id = t; number = kept_at counts t + n; slot = slot_at slots t }

  after_first : (t n j : ℕ) (ts : List ℕ) (rest : List Own) → is_entry (slot_at slots t) ≡ true
      → kept_at counts t ≡ count_with_key_below (λ i. i) kept t → ((j : ℕ) → j < length rest → IsOwnAt ts (n + 1) j (own_in_place rest j))
      → j < suc (length rest) → IsOwnAt (t ∷ ts) n j (own_in_place (own_at t n ∷ rest) j)
  after_first t n zero ts rest stand is later low = record {
    place = 0;
    there = omega arith;
    id = refl;
    number = omega (arith, is);
    here = stand;
    slot = refl;
  }
  after_first t n (suc j) ts rest stand is later low =
      (let w = later j (omega (arith, low)) in record {
        place = suc w.place;
        there = (let l = w.there in omega (arith, l));
        id = w.id;
        number = (let m = w.number in omega (arith, m));
        here = w.here;
        slot = w.slot;
      })

  one_later : (t n j : ℕ) (ts : List ℕ) (o : Own) → IsOwnAt ts n j o → IsOwnAt (t ∷ ts) n j o
  one_later t n j ts o w = record {
    place = suc w.place;
    there = (let l = w.there in omega (arith, l));
    id = w.id;
    number = w.number;
    here = w.here;
    slot = w.slot;
  }

  with_first : (t : ℕ) (ts : List ℕ) (n : ℕ) → is_entry (slot_at slots t) ≡ true
      → own_from counts (t ∷ ts) slots n ≡ own_at t n ∷ own_from counts ts slots (n + 1)
  with_first t ts n stand = ap (λ b. cond b (own_at t n ∷ []) [] ++ own_from counts ts slots (n + cond b 1 0)) stand

  without_first : (t : ℕ) (ts : List ℕ) (n : ℕ) → is_entry (slot_at slots t) ≡ false
      → own_from counts (t ∷ ts) slots n ≡ own_from counts ts slots n
  without_first t ts n gone =
      ap (λ b. cond b (own_at t n ∷ []) [] ++ own_from counts ts slots (n + cond b 1 0)) gone ∙
      (let e : n + 0 ≡ n = omega arith in ap (own_from counts ts slots) e)

  own_is : (ts : List ℕ) (n : ℕ) → AreBelow ts → (j : ℕ) → j < length (own_from counts ts slots n)
      → IsOwnAt ts n j (own_in_place (own_from counts ts slots n) j)
  own_is [] n are j low = absurd (omega (arith, low))
  own_is (t ∷ ts) n are j low = ⊎_elim
      (λ (stand : is_entry (slot_at slots t) ≡ true).
      subst (λ os. IsOwnAt (t ∷ ts) n j (own_in_place os j)) (sym (with_first t ts n stand))
      (after_first t n j ts (own_from counts ts slots (n + 1)) stand (are 0 (omega arith))
      (λ i l. own_is ts (n + 1) (λ k h. are (suc k) (omega (arith, h))) i l)
      (subst (λ os. j < length os) (with_first t ts n stand) low)))
      (λ (gone : is_entry (slot_at slots t) ≡ false).
      subst (λ os. IsOwnAt (t ∷ ts) n j (own_in_place os j)) (sym (without_first t ts n gone))
      (one_later t n j ts (own_in_place (own_from counts ts slots n) j)
      (own_is ts n (λ k l. are (suc k) (omega (arith, l))) j (subst (λ os. j < length os) (without_first t ts n gone) low))))
      (cases_Bool (is_entry (slot_at slots t)))

  first_up : (t n : ℕ) (rest : List Own) → ((j : ℕ) → j < length rest → t < (own_in_place rest j).id)
      → ((i j : ℕ) → i < j → j < length rest → (own_in_place rest i).id < (own_in_place rest j).id)
      → (i j : ℕ) → i < j → j < suc (length rest) → (own_in_place (own_at t n ∷ rest) i).id < (own_in_place (own_at t n ∷ rest) j).id
  first_up t n rest above up zero zero lt low = absurd (omega (arith, lt))
  first_up t n rest above up zero (suc j) lt low = above j (omega (arith, low))
  first_up t n rest above up (suc i) zero lt low = absurd (omega (arith, lt))
  first_up t n rest above up (suc i) (suc j) lt low = up i j (omega (arith, lt)) (omega (arith, low))

  own_up : (ts : List ℕ) (n : ℕ) → AreBelow ts → ((i j : ℕ) → i < j → j < length ts → kept_at ts i < kept_at ts j)
      → (i j : ℕ) → i < j → j < length (own_from counts ts slots n)
      → (own_in_place (own_from counts ts slots n) i).id < (own_in_place (own_from counts ts slots n) j).id
  own_up [] n are up i j lt low = absurd (omega (arith, low))
  own_up (t ∷ ts) n are up i j lt low =
      let later : AreBelow ts = λ k h. are (suc k) (omega (arith, h)) in
      let rises : (x y : ℕ) → x < y → y < length ts → kept_at ts x < kept_at ts y =
      λ x y l h. up (suc x) (suc y) (omega (arith, l)) (omega (arith, h)) in
      ⊎_elim
      (λ (stand : is_entry (slot_at slots t) ≡ true).
      subst (λ os. (own_in_place os i).id < (own_in_place os j).id) (sym (with_first t ts n stand))
      (first_up t n (own_from counts ts slots (n + 1))
      (λ k l. let w = own_is ts (n + 1) later k l in let u = up 0 (suc w.place) (omega arith) (let h = w.there in omega (arith, h)) in
      subst (λ v. t < v) (sym w.id) u)
      (own_up ts (n + 1) later rises) i j lt (subst (λ os. j < length os) (with_first t ts n stand) low)))
      (λ (gone : is_entry (slot_at slots t) ≡ false).
      subst (λ os. (own_in_place os i).id < (own_in_place os j).id) (sym (without_first t ts n gone))
      (own_up ts n later rises i j lt (subst (λ os. j < length os) (without_first t ts n gone) low)))
      (cases_Bool (is_entry (slot_at slots t)))

  -- each touched id at which there is something is among them
  own_has : (ts : List ℕ) (n : ℕ) (k : ℕ) → k < length ts → is_entry (slot_at slots (kept_at ts k)) ≡ true
      → IsOwn (own_from counts ts slots n) (kept_at ts k)
  own_has [] n k low stand = absurd (omega (arith, low))
  own_has (t ∷ ts) n zero low stand = subst (λ os. IsOwn os t) (sym (with_first t ts n stand)) (0, omega arith, refl)
  own_has (t ∷ ts) n (suc k) low stand = ⊎_elim
      (λ (one : is_entry (slot_at slots t) ≡ true).
      subst (λ os. IsOwn os (kept_at ts k)) (sym (with_first t ts n one))
      (let w = own_has ts (n + 1) k (omega (arith, low)) stand in (suc w.0, (let l = w.1 in omega (arith, l)), w.2)))
      (λ (gone : is_entry (slot_at slots t) ≡ false).
      subst (λ os. IsOwn os (kept_at ts k)) (sym (without_first t ts n gone)) (own_has ts n k (omega (arith, low)) stand))
      (cases_Bool (is_entry (slot_at slots t)))

  module _ (touched : List ℕ) (are : AreBelow touched)
      (kept_up : (i j : ℕ) → i < j → j < length kept → kept_at kept i < kept_at kept j)
      (up : (i j : ℕ) → i < j → j < length touched → kept_at touched i < kept_at touched j)
      (apart : (i j : ℕ) → i < length kept → j < length touched → kept_at kept i ≢ kept_at touched j)
      (kept_stand : (k : ℕ) → k < length kept → is_entry (slot_at slots (kept_at kept k)) ≡ true)
      (known : (id : ℕ) → is_entry (slot_at slots id) ≡ true → IsKept kept id ⊎ IsKept touched id) where
    abbrev own : List Own
    own = own_from counts touched slots 0

    merge : IsMerge kept own
    merge = record {
      kept_up = kept_up;
      own_up = own_up touched 0 are up;
      apart = λ i j low high e. (let w = own_is touched 0 are j high in apart i w.place low w.there (e ∙ w.id));
      numbered = λ j low. (let w = own_is touched 0 are j low in let m = w.number in omega (arith, m));
    }

    pub shared_of : IsShared slots kept own
    shared_of = record {
      merge = merge;
      listed = λ id stand. ⊎_elim
          (λ (w : IsKept kept id). inl w)
          (λ (w : IsKept touched id). inr
          (subst (IsOwn own) w.2 (own_has touched 0 w.0 w.1 (ap (λ v. is_entry (slot_at slots v)) w.2 ∙ stand))))
          (known id stand);
      there = λ id has. ⊎_elim
          (λ (w : IsKept kept id). ap (λ v. is_entry (slot_at slots v)) (sym w.2) ∙ kept_stand w.0 w.1)
          (λ (w : IsOwn own id). ap (λ v. is_entry (slot_at slots v)) (sym w.2) ∙ (own_is touched 0 are w.0 w.1).here)
          has;
      same = λ k low. (own_is touched 0 are k low).slot;
    }
