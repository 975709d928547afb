-- The ids that pass a test, in order.
use Rattle.std.proofs.Common.{◌≡◌, ◌≢◌, ℕ, zero, suc, ◌+◌, ◌<◌, ◌≤◌, Bool, true, false, cond, List, [], ◌∷◌, ◌++◌, ◌⊎◌, inl, inr, refl, sym}
use Rattle.std.proofs.Common.{ap, ◌∙◌, subst, arith, ⊎_elim, length, add-one, length-append}
use Rattle.std.proofs.Math.Seq.{get_or-append_seam}
use Rattle.std.proofs.lemmas.Bool.{cases_Bool, cases_eq, cases_lt, lt-ltb, le-ltb}
use Rattle.std.proofs.lemmas.List.{get_or_append_left, append-nil}
use Rattle.cs_paths.specs.Marks.{count_with_key_below, kept_at, numbers_that_pass, IsKept}

-- ---- marks

-- ---- a list with one more

-- an element of a list with one more is one of the list, or that one
pub at_end : (xs : List ℕ) (y k : ℕ) → k < length (xs ++ y ∷ []) → ((k < length xs) × (kept_at (xs ++ y ∷ []) k ≡ kept_at xs k))
    ⊎ ((k ≡ length xs) × (kept_at (xs ++ y ∷ []) k ≡ y))
at_end xs y k low = ⊎_elim
    (λ (lt : k < length xs). inl (lt, get_or_append_left xs (y ∷ []) 0 k lt))
    (λ (ge : length xs ≤ k).
    let same : k ≡ length xs = (let a = length-append xs (y ∷ []) in omega (arith, a, low, ge)) in
    inr (same, ap (kept_at (xs ++ y ∷ [])) same ∙ get_or-append_seam xs y [] 0))
    (cases_lt k (length xs))

module _ (f : ℕ → Bool) where
  pub one_more : (n : ℕ) → numbers_that_pass f (n + 1) ≡ numbers_that_pass f n ++ cond (f n) (n ∷ []) []
  one_more n = ap (numbers_that_pass f) (add-one n)

  pub count_more : (n : ℕ) → length (numbers_that_pass f (n + 1)) ≡ length (numbers_that_pass f n) + cond (f n) 1 0
  count_more n =
      ap length (one_more n) ∙ length-append (numbers_that_pass f n) (cond (f n) (n ∷ []) []) ∙ ap (λ k. length (numbers_that_pass f n) + k)
      (of (f n))
    where
      of : (b : Bool) → length (cond b (n ∷ []) []) ≡ cond b 1 0
      of true = refl
      of false = refl

  pub with_it : (n : ℕ) → f n ≡ true → numbers_that_pass f (suc n) ≡ numbers_that_pass f n ++ n ∷ []
  with_it n here = ap (λ b. numbers_that_pass f n ++ cond b (n ∷ []) []) here

  pub without_it : (n : ℕ) → f n ≡ false → numbers_that_pass f (suc n) ≡ numbers_that_pass f n
  without_it n gone = ap (λ b. numbers_that_pass f n ++ cond b (n ∷ []) []) gone ∙ append-nil (numbers_that_pass f n)

  -- each of them is below n and passes
  pub ids_are : (n k : ℕ) → k < length (numbers_that_pass f n) → (kept_at (numbers_that_pass f n) k < n)
      × (f (kept_at (numbers_that_pass f n) k) ≡ true)
  ids_are zero k low = absurd (omega (arith, low))
  ids_are (suc n) k low = ⊎_elim
      (λ (here : f n ≡ true). ⊎_elim
      (λ (old : (k < length (numbers_that_pass f n)) × (kept_at (numbers_that_pass f n ++ n ∷ []) k ≡ kept_at (numbers_that_pass f n) k)).
      let same : kept_at (numbers_that_pass f (suc n)) k ≡ kept_at (numbers_that_pass f n) k =
      ap (λ xs. kept_at xs k) (with_it n here) ∙ old.1 in
      let w = ids_are n k old.0 in
      (let l = w.0 in omega (arith, l, same), ap f same ∙ w.1))
      (λ (last : (k ≡ length (numbers_that_pass f n)) × (kept_at (numbers_that_pass f n ++ n ∷ []) k ≡ n)).
      let same : kept_at (numbers_that_pass f (suc n)) k ≡ n = ap (λ xs. kept_at xs k) (with_it n here) ∙ last.1 in
      (omega (arith, same), ap f same ∙ here))
      (at_end (numbers_that_pass f n) n k (subst (λ xs. k < length xs) (with_it n here) low)))
      (λ (gone : f n ≡ false).
      let same = ap (λ xs. kept_at xs k) (without_it n gone) in
      let w = ids_are n k (subst (λ xs. k < length xs) (without_it n gone) low) in
      (let l = w.0 in omega (arith, l, same), ap f same ∙ w.1))
      (cases_Bool (f n))

  pub ids_up : (n i j : ℕ) → i < j → j < length (numbers_that_pass f n)
      → kept_at (numbers_that_pass f n) i < kept_at (numbers_that_pass f n) j
  ids_up zero i j lt low = absurd (omega (arith, low))
  ids_up (suc n) i j lt low = ⊎_elim
      (λ (here : f n ≡ true).
      let long = with_it n here in
      let inside = subst (λ xs. j < length xs) long low in
      subst (λ xs. kept_at xs i < kept_at xs j) (sym long) (⊎_elim
      (λ (old : (j < length (numbers_that_pass f n)) × (kept_at (numbers_that_pass f n ++ n ∷ []) j ≡ kept_at (numbers_that_pass f n) j)).
      let lower = old.0 in
      let first = get_or_append_left (numbers_that_pass f n) (n ∷ []) 0 i (omega (arith, lt, lower)) in
      let rest = ids_up n i j lt lower in
      let same = old.1 in
      omega (arith, first, rest, same))
      (λ (last : (j ≡ length (numbers_that_pass f n)) × (kept_at (numbers_that_pass f n ++ n ∷ []) j ≡ n)).
      let is = last.0 in
      let lower : i < length (numbers_that_pass f n) = omega (arith, lt, is) in
      let first = get_or_append_left (numbers_that_pass f n) (n ∷ []) 0 i lower in
      let w = ids_are n i lower in
      let small = w.0 in
      let same = last.1 in
      omega (arith, first, small, same))
      (at_end (numbers_that_pass f n) n j inside)))
      (λ (gone : f n ≡ false). subst (λ xs. kept_at xs i < kept_at xs j) (sym (without_it n gone))
      (ids_up n i j lt (subst (λ xs. j < length xs) (without_it n gone) low)))
      (cases_Bool (f n))

  -- and what passes is one of them
  pub ids_have : (n id : ℕ) → id < n → f id ≡ true → IsKept (numbers_that_pass f n) id
  ids_have zero id low is = absurd (omega (arith, low))
  ids_have (suc n) id low is = ⊎_elim
      (λ (same : id ≡ n).
      let here : f n ≡ true = ap f (sym same) ∙ is in
      subst (λ xs. IsKept xs id) (sym (with_it n here)) (
        length (numbers_that_pass f n),
        (let a = length-append (numbers_that_pass f n) (n ∷ []) in omega (arith, a)),
        get_or-append_seam
            (numbers_that_pass f n) n [] 0 ∙ sym same,
      ))
      (λ (other : id ≢ n).
      let w = ids_have n id (omega (arith, low, other)) is in
      let l = w.1 in
      let a = length-append (numbers_that_pass f n) (cond (f n) (n ∷ []) []) in
      (w.0, omega (arith, a, l), get_or_append_left (numbers_that_pass f n) (cond (f n) (n ∷ []) []) 0 w.0 l ∙ w.2))
      (cases_eq id n)

  -- so many are below an id as pass before it
  below_end : (xs ys : List ℕ) (y : ℕ)
      → count_with_key_below (λ k. k) (xs ++ ys) y ≡ count_with_key_below (λ k. k) xs y + count_with_key_below (λ k. k) ys y
  below_end [] ys y = omega arith
  below_end (x ∷ xs) ys y = (let rest = below_end xs ys y in omega (arith, rest))

  below_low : (n id : ℕ) → n ≤ id → count_with_key_below (λ k. k) (numbers_that_pass f n) id ≡ length (numbers_that_pass f n)
  below_low zero id le = refl
  below_low (suc n) id le =
      below_end (numbers_that_pass f n) (cond (f n) (n ∷ []) []) id ∙
      (let rest = below_low n id (omega (arith, le)) in let a = length-append (numbers_that_pass f n) (cond (f n) (n ∷ []) []) in
      let o = of (f n) in omega (arith, rest, a, o))
    where
      of : (b : Bool) → count_with_key_below (λ k. k) (cond b (n ∷ []) []) id ≡ length (cond b (n ∷ []) [])
      of true = ap (λ b. cond b 1 0 + 0) (lt-ltb n id (omega (arith, le)))
      of false = refl

  none_below : (n id : ℕ) → id ≤ n → (b : Bool) → count_with_key_below (λ k. k) (cond b (n ∷ []) []) id ≡ 0
  none_below n id le true = ap (λ b. cond b 1 0 + 0) (le-ltb n id le)
  none_below n id le false = refl

  pub below_ids : (n id : ℕ) → id ≤ n → count_with_key_below (λ k. k) (numbers_that_pass f n) id ≡ length (numbers_that_pass f id)
  below_ids zero id le = (let z : id ≡ 0 = omega (arith, le) in sym (ap (λ k. length (numbers_that_pass f k)) z))
  below_ids (suc n) id le = ⊎_elim
      (λ (same : id ≡ suc n). below_low (suc n) id (omega (arith, same)) ∙ ap (λ k. length (numbers_that_pass f k)) (sym same))
      (λ (other : id ≢ suc n).
      below_end (numbers_that_pass f n) (cond (f n) (n ∷ []) []) id ∙
      (let rest = below_ids n id (omega (arith, le, other)) in let o = none_below n id (omega (arith, le, other)) (f n) in
      omega (arith, rest, o)))
      (cases_eq id (suc n))
