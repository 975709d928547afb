-- Counts of what passes.
use Rattle.std.proofs.Common.{◌≡◌, ℕ, zero, suc, ◌+◌, ◌<◌, Bool, true, false, cond, List, [], ◌∷◌, ◌++◌, refl, sym, ap, ◌∙◌, arith}
use Rattle.std.proofs.lemmas.List.Sums.{sum_by-append}
use Rattle.std.specs.Prelude.{count_by}
use Rattle.cs_sets.specs.Following.{chosen}
use Rattle.cs_sets.specs.Laws.Following.{chosen_more}

count_both : (p : ℕ → Bool) (xs ys : List ℕ) → count_by p (xs ++ ys) ≡ count_by p xs + count_by p ys
count_both p xs ys = sum_by-append (λ x. cond (p x) 1 0) xs ys

-- what a test leaves out that doesn't pass isn't counted
pub count_less : (p few many : ℕ → Bool) (n : ℕ) → ((i : ℕ) → i < n → few i ≡ true → many i ≡ true)
    → ((i : ℕ) → i < n → many i ≡ true → few i ≡ false → p i ≡ false)
    → count_by p (chosen few n) ≡ count_by p (chosen many n)
count_less p few many zero within idle = refl
count_less p few many (suc k) within idle =
    ap (count_by p) (chosen_more few k) ∙ count_both p (chosen few k) (cond (few k) (k ∷ []) [])
    ∙ ap (λ v. v + count_by p (cond (few k) (k ∷ []) []))
    (count_less p few many k (λ i l. within i (omega (arith, l))) (λ i l. idle i (omega (arith, l))))
    ∙ ap (λ v. count_by p (chosen many k) + v) (last (few k) (many k) (within k (omega arith)) (idle k (omega arith)))
    ∙ sym (ap (count_by p) (chosen_more many k) ∙ count_both p (chosen many k) (cond (many k) (k ∷ []) []))
  where
    last : (a b : Bool) → (a ≡ true → b ≡ true) → (b ≡ true → a ≡ false → p k ≡ false)
        → count_by p (cond a (k ∷ []) []) ≡ count_by p (cond b (k ∷ []) [])
    last true true w i = refl
    last false false w i = refl
    last true false w i = (let e = w refl in absurd (cc e))
    last false true w i = (let e = i refl refl in ap (λ b. 0 + cond b 1 0) (sym e))
