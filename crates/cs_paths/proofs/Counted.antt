-- How many of the first numbers pass a test, and the list of these as the front of a longer one.
use Rattle.std.proofs.Common.{◌≡◌, ◌≢◌, ℕ, zero, suc, ◌+◌, ◌<◌, ◌≤◌, Bool, true, false, cond, List, [], ◌∷◌, ◌++◌, sym}
use Rattle.std.proofs.Common.{ap, ◌∙◌, subst, arith, ⊎_elim, length, take, add-one, append_assoc, length-append}
use Rattle.std.proofs.Math.Seq.{take-append_seam}
use Rattle.std.proofs.lemmas.Bool.{cases_Bool, cases_eq}
use Rattle.std.proofs.lemmas.List.{append-nil}
use Rattle.cs_paths.specs.Marks.{kept_at, numbers_that_pass}
use Rattle.cs_paths.proofs.Listing.{at_end, count_more, with_it, without_it}

-- one for a number that passes
abbrev pub weight : Bool → ℕ
weight b = cond b 1 0

module _ (f : ℕ → Bool) where
  -- so many of the first n pass
  abbrev pub passing : ℕ → ℕ
  passing n = length (numbers_that_pass f n)

  pub passing_suc : (n : ℕ) → passing (suc n) ≡ passing n + cond (f n) 1 0
  passing_suc n = sym (ap passing (add-one n)) ∙ count_more f n

  -- those of the first k come first
  front : (k n : ℕ) → k ≤ n → (rest : List ℕ) × (numbers_that_pass f n ≡ numbers_that_pass f k ++ rest)
  front k zero le =
      (let z : 0 ≡ k = omega (arith, le) in
      ([], ap (numbers_that_pass f) z ∙ sym (append-nil (numbers_that_pass f k))))
  front k (suc n) le = ⊎_elim
      (λ (e : k ≡ suc n). ([], ap (numbers_that_pass f) (sym e) ∙ sym (append-nil (numbers_that_pass f k))))
      (λ (e : k ≢ suc n).
      (let w = front k n (omega (arith, le, e)) in (
        w.0 ++ cond (f n) (n ∷ []) [],
        ap (λ xs. xs ++ cond (f n) (n ∷ []) []) w.1 ∙ append_assoc (numbers_that_pass f k) w.0 (cond (f n) (n ∷ []) []),
      )))
      (cases_eq k (suc n))

  pub taken : (k n : ℕ) → k ≤ n → take (passing k) (numbers_that_pass f n) ≡ numbers_that_pass f k
  taken k n le =
      (let w = front k n le in
      ap (take (passing k)) w.1 ∙ take-append_seam (numbers_that_pass f k) w.0)

  pub fewer : (k n : ℕ) → k ≤ n → passing k ≤ passing n
  fewer k n le =
      (let w = front k n le in
      let long = ap length w.1 ∙ length-append (numbers_that_pass f k) w.0 in omega (arith, long))

  -- as many pass before one of them as its place says
  pub place_of_passing : (n i : ℕ) → i < passing n → passing (kept_at (numbers_that_pass f n) i) ≡ i
  place_of_passing zero i low = absurd (omega (arith, low))
  place_of_passing (suc n) i low = ⊎_elim
      (λ (here : f n ≡ true). ⊎_elim
      (λ (old : (i < passing n) × (kept_at (numbers_that_pass f n ++ n ∷ []) i ≡ kept_at (numbers_that_pass f n) i)).
      ap passing (ap (λ xs. kept_at xs i) (with_it f n here) ∙ old.1) ∙ place_of_passing n i old.0)
      (λ (last : (i ≡ passing n) × (kept_at (numbers_that_pass f n ++ n ∷ []) i ≡ n)).
      ap passing (ap (λ xs. kept_at xs i) (with_it f n here) ∙ last.1) ∙ sym last.0)
      (at_end (numbers_that_pass f n) n i (subst (λ xs. i < length xs) (with_it f n here) low)))
      (λ (gone : f n ≡ false).
      (let same = without_it f n gone in
      ap passing (ap (λ xs. kept_at xs i) same)
      ∙ place_of_passing n i (subst (λ xs. i < length xs) same low)))
      (cases_Bool (f n))
