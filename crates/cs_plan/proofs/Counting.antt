-- How many pass a test, of the first places and of those of them that are kept.
use Rattle.std.proofs.Common.{◌≡◌, ℕ, ◌+◌, ◌&&◌, Bool, true, false, cond, List, [], ◌∷◌, ◌++◌, count_by, refl, ap, ◌∙◌, arith}
use Rattle.std.proofs.lemmas.List.Sums.{fold_push}
use Rattle.std.specs.List.{filter, range_with_len}
use Rattle.cs_sets.specs.Laws.Lists.{range_more}
use Rattle.cs_plan.proofs.Listed.{kept_more, kept_same}

pub count_push : {X : Type 0} (p : X → Bool) (xs : List X) (x : X) (b : Bool) → p x ≡ b
    → count_by p (xs ++ x ∷ []) ≡ count_by p xs + cond b 1 0
count_push p xs x b is = fold_push (λ a y. a + cond (p y) 1 0) 0 xs x ∙ ap (λ v. count_by p xs + cond v 1 0) is

pub first_more : (p : ℕ → Bool) (n : ℕ) (b : Bool) → p n ≡ b
    → count_by p (range_with_len 0 (n + 1)) ≡ count_by p (range_with_len 0 n) + cond b 1 0
first_more p n b is = ap (count_by p) (range_more n) ∙ count_push p (range_with_len 0 n) n b is

module _ (p q : ℕ → Bool) (n : ℕ) where
  kept : (b : Bool) → q n ≡ true → p n ≡ b
      → count_by p (filter q (range_with_len 0 (n + 1))) ≡ count_by p (filter q (range_with_len 0 n)) + cond b 1 0
  kept b stays is = ap (count_by p) (kept_more q n stays) ∙ count_push p (filter q (range_with_len 0 n)) n b is

  gone : q n ≡ false → count_by p (filter q (range_with_len 0 (n + 1))) ≡ count_by p (filter q (range_with_len 0 n)) + 0
  gone goes = ap (count_by p) (kept_same q n goes) ∙ omega arith

  same : (b c : Bool) → p n ≡ b → q n ≡ c
      → count_by p (filter q (range_with_len 0 (n + 1))) ≡ count_by p (filter q (range_with_len 0 n)) + cond (b && c) 1 0
  same true true is stays = kept true stays is
  same false true is stays = kept false stays is
  same true false is goes = gone goes
  same false false is goes = gone goes

  pub around_more : (b : Bool) → (p n && q n) ≡ b
      → count_by p (filter q (range_with_len 0 (n + 1))) ≡ count_by p (filter q (range_with_len 0 n)) + cond b 1 0
  around_more b is = same (p n) (q n) refl refl ∙ ap (λ v. count_by p (filter q (range_with_len 0 n)) + cond v 1 0) is
