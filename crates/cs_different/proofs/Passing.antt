-- The first of those elements that pass a test, by another test of likeness.
use Rattle.std.proofs.Common.{◌≡◌, ◌&&◌, ◌||◌, Bool, true, false, cond, List, [], ◌∷◌, ◌++◌, refl, sym, ap, ◌∙◌, arith, ⊎_elim, subst}
use Rattle.std.proofs.lemmas.Bool.{cases_Bool}
use Rattle.std.proofs.lemmas.List.Elements.{All-filter, All-head, All-tail}
use Rattle.std.specs.List.{All, Contains, filter, flat_map, list_all, list_any}
use Rattle.cs_sets.specs.Different.{IsLike, firsts}
use Rattle.cs_sets.specs.Laws.Firsts.{pruned}
use Rattle.cs_sets.specs.Laws.Lists.{Ordered}
use Rattle.cs_different.proofs.Firsts.{in_cons}

pub ordered_filter : {X : Type 0} (R : X → X → Type 0) (p : X → Bool) (xs : List X) → Ordered R xs → Ordered R (filter p xs)
ordered_filter R p [] h = tt
ordered_filter {X} R p (x ∷ xs) h = by (p x) (ordered_filter R p xs h.1)
  where
    by : (b : Bool) → Ordered R (filter p xs) → Ordered R (cond b (x ∷ filter p xs) (filter p xs))
    by true rest = (All-filter p (R x) xs h.0, rest)
    by false rest = rest

-- where close elements are alike, and pass the test both or none
module _ {X : Type 0} (P : X → Type 0) (close like : X → X → Bool) (is : IsLike like) (test : X → Bool)
    (finer : (a b : X) → P a → P b → close a b ≡ true → (like a b ≡ true) × (test a ≡ test b)) where
  abbrev pick : X → List X
  pick x = cond (test x) (x ∷ []) []

  picked : (xs : List X) → flat_map pick xs ≡ filter test xs
  picked [] = refl
  picked (x ∷ xs) = ap (λ v. pick x ++ v) (picked xs) ∙ by (test x)
    where
      by : (b : Bool) → cond b (x ∷ []) [] ++ filter test xs ≡ cond b (x ∷ filter test xs) (filter test xs)
      by true = refl
      by false = refl

  follows : (a b : X) → P a → P b → close a b ≡ true → (z : X) → Contains (pick b) z → list_any (λ w. like w z) (pick a) ≡ true
  follows a b pa pb t z there =
      let both = finer a b pa pb t in ⊎_elim
      (λ (y : test b ≡ true).
      (let e = only (subst (λ v. Contains (cond v (b ∷ []) []) z) y there) in
      ap (λ v. list_any (λ w. like w z) (cond v (a ∷ []) [])) (both.1 ∙ y) ∙ ap (λ v. v || false) (ap (like a) (sym e) ∙ both.0)))
      (λ (f : test b ≡ false). absurd (none (subst (λ v. Contains (cond v (b ∷ []) []) z) f there)))
      (cases_Bool (test b))
    where
      none : Contains [] z → ⊥
      none (k, low, e) = absurd (omega (arith, low))

      only : Contains (b ∷ []) z → b ≡ z
      only c = ⊎_elim (λ (e : b ≡ z). e) (λ (later : Contains [] z). absurd (none later)) (in_cons b z [] c)

  -- lists with the same close firsts have the same firsts of those that pass
  pub passing_same : (xs ys : List X) → All P xs → All P ys → firsts close xs ≡ firsts close ys
      → firsts like (filter test xs) ≡ firsts like (filter test ys)
  passing_same xs ys px py e =
      ap (firsts like) (sym (picked xs)) ∙ sym (pruned P close like is pick follows xs px)
      ∙ ap (λ v. firsts like (flat_map pick v)) e
      ∙ pruned P close like is pick follows ys py ∙ ap (firsts like) (picked ys)

-- tests that agree at each element
pub all_agree : {X : Type 0} (p q : X → Bool) (xs : List X) → All (λ x. p x ≡ q x) xs → list_all p xs ≡ list_all q xs
all_agree p q [] all = refl
all_agree p q (x ∷ xs) all =
    ap (λ b. b && list_all p xs) (All-head (λ v. p v ≡ q v) x xs all)
    ∙ ap (λ b. q x && b) (all_agree p q xs (All-tail (λ v. p v ≡ q v) x xs all))
