-- The first elements of a list, by a test of likeness.
use Rattle.std.proofs.Common.{◌≡◌, ℕ, zero, suc, ◌<◌, ◌||◌, Bool, true, false, cond}
use Rattle.std.proofs.Common.{List, [], ◌∷◌, ◌++◌, refl, sym, ap, ◌∙◌, arith, ⊎_elim, length, get_or, subst, fold}
use Rattle.std.proofs.lemmas.Bool.{cases_Bool, false≢true, or_cases, or_left, or_right}
use Rattle.std.proofs.lemmas.List.{append-nil}
use Rattle.std.proofs.lemmas.List.Concat.{flat_map-append}
use Rattle.std.proofs.lemmas.List.Elements.{All-nil, All-cons, All-head, All-tail, All-push, All-contains, Contains-get_or}
use Rattle.std.proofs.lemmas.List.Folds.{list_any-append, list_any_at}
use Rattle.std.proofs.lemmas.List.Sums.{fold-append}
use Rattle.std.specs.List.{All, Contains, flat_map, list_any}
use Rattle.cs_sets.specs.Different.{add_first, firsts, IsLike}
use Rattle.cs_sets.specs.Laws.Lists.{Ordered, ordered_append}

-- some element passes
abbrev pub Some_of : {X : Type 0} → (X → Bool) → List X → Type 0
Some_of {X} p xs = (x : X) × (Contains xs x × (p x ≡ true))

or_false : (b : Bool) → (b || false) ≡ b
or_false true = refl
or_false false = refl

pub found_any : {X : Type 0} (p : X → Bool) (xs : List X) → list_any p xs ≡ true → (k : ℕ) × (x : X)
    × (k < length xs) × (get_or xs k x ≡ x) × (p x ≡ true)
found_any p [] t = absurd (false≢true t)
found_any {X} p (x ∷ xs) t = ⊎_elim
    (λ (h : p x ≡ true). (0, x, omega arith, refl, h))
    (λ (h : list_any p xs ≡ true).
    (let w = found_any p xs h in let l = w.2 in (suc w.0, w.1, omega (arith, l), w.3, w.4)))
    (or_cases (p x) (list_any p xs) t)

pub any_found : {X : Type 0} (p : X → Bool) (xs : List X) (x : X) → Contains xs x → p x ≡ true
    → list_any p xs ≡ true
any_found p xs x c t = list_any_at p xs c.0 x c.1 (ap p c.2 ∙ t)

module _ {X : Type 0} (like : X → X → Bool) (is : IsLike like) where
  abbrev add : List X → X → List X
  add = add_first like

  abbrev met : List X → X → Bool
  met kept x = list_any (λ y. like y x) kept

  -- an element that is met adds nothing
  pub add_met : (kept : List X) (x : X) → met kept x ≡ true → add kept x ≡ kept
  add_met kept x t = ap (λ b. cond b kept (kept ++ x ∷ [])) t

  pub add_new : (kept : List X) (x : X) → met kept x ≡ false → add kept x ≡ kept ++ x ∷ []
  add_new kept x f = ap (λ b. cond b kept (kept ++ x ∷ [])) f

  -- what is met stays met
  met_push : (kept : List X) (x z : X) → met kept z ≡ true → met (kept ++ x ∷ []) z ≡ true
  met_push kept x z t = list_any-append (λ y. like y z) kept (x ∷ [])
      ∙ or_left (met kept z) (met (x ∷ []) z) t

  met_add : (kept : List X) (x z : X) → met kept z ≡ true → met (add kept x) z ≡ true
  met_add kept x z t = ⊎_elim
      (λ (m : met kept x ≡ true). ap (λ v. met v z) (add_met kept x m) ∙ t)
      (λ (f : met kept x ≡ false). ap (λ v. met v z) (add_new kept x f) ∙ met_push kept x z t)
      (cases_Bool (met kept x))

  pub met_stays : (xs kept : List X) (z : X) → met kept z ≡ true → met (fold add kept xs) z ≡ true
  met_stays [] kept z t = t
  met_stays (x ∷ xs) kept z t = met_stays xs (add kept x) z (met_add kept x z t)

  added_met : (kept : List X) (x : X) → met (add kept x) x ≡ true
  added_met kept x = ⊎_elim
      (λ (m : met kept x ≡ true). ap (λ v. met v x) (add_met kept x m) ∙ m)
      (λ (f : met kept x ≡ false). ap (λ v. met v x) (add_new kept x f)
      ∙ list_any-append (λ y. like y x) kept (x ∷ [])
      ∙ or_right (met kept x) (met (x ∷ []) x) (or_left (like x x) false (is.itself x)))
      (cases_Bool (met kept x))

  -- each element of the list is met in the end
  pub all_met : (xs kept : List X) (z : X) → Contains xs z → met (fold add kept xs) z ≡ true
  all_met [] kept z (k, low, e) = absurd (omega (arith, low))
  all_met (x ∷ xs) kept z (zero, low, e) = met_stays xs (add kept x) z
      (ap (λ v. met (add kept x) v) (sym e) ∙ added_met kept x)
  all_met (x ∷ xs) kept z (suc k, low, e) = all_met xs (add kept x) z (k, omega (arith, low), e)

  -- a list of which each element is met adds nothing
  pub none_new : (xs kept : List X) → All (λ z. met kept z ≡ true) xs → fold add kept xs ≡ kept
  none_new [] kept all = refl
  none_new (x ∷ xs) kept all =
      ap (λ v. fold add v xs) (add_met kept x (All-head (λ z. met kept z ≡ true) x xs all))
      ∙ none_new xs kept (All-tail (λ z. met kept z ≡ true) x xs all)

  -- what an element that is met is like is met
  pub met_like : (kept : List X) (w z : X) → met kept w ≡ true → like w z ≡ true → met kept z ≡ true
  met_like kept w z t l =
      let found = found_any (λ y. like y w) kept t in
      any_found (λ y. like y z) kept found.1 (found.0, found.2, found.3)
      (is.passes_on found.1 w z found.4 l)

  -- no two of the kept are alike
  pub apart : (xs kept : List X) → Ordered (λ a b. like a b ≡ false) kept
      → Ordered (λ a b. like a b ≡ false) (fold add kept xs)
  apart [] kept h = h
  apart (x ∷ xs) kept h = ⊎_elim
      (λ (m : met kept x ≡ true). subst (λ v. Ordered (λ a b. like a b ≡ false) (fold add v xs))
      (sym (add_met kept x m)) (apart xs kept h))
      (λ (f : met kept x ≡ false). subst (λ v. Ordered (λ a b. like a b ≡ false) (fold add v xs))
      (sym (add_new kept x f))
      (apart xs (kept ++ x ∷ [])
      (ordered_append (λ a b. like a b ≡ false) kept (x ∷ []) h
      (All-nil (λ b. like x b ≡ false), tt)
      (λ k d low. All-cons (λ b. like (get_or kept k d) b ≡ false) x [] (not_met kept x k d low f)
      (All-nil (λ b. like (get_or kept k d) b ≡ false))))))
      (cases_Bool (met kept x))
    where
      not_met : (kept : List X) (x : X) (k : ℕ) (d : X) → k < length kept → met kept x ≡ false
          → like (get_or kept k d) x ≡ false
      not_met kept x k d low f = ⊎_elim
          (λ (t : like (get_or kept k d) x ≡ true). absurd
          (false≢true (sym f ∙ list_any_at (λ y. like y x) kept k d low t)))
          (λ (g : like (get_or kept k d) x ≡ false). g)
          (cases_Bool (like (get_or kept k d) x))

  -- what is kept was in the list
  pub kept_all : (P : X → Type 0) (xs kept : List X) → All P xs → All P kept
      → All P (fold add kept xs)
  kept_all P [] kept all h = h
  kept_all P (x ∷ xs) kept all h = ⊎_elim
      (λ (m : met kept x ≡ true). subst (λ v. All P (fold add v xs)) (sym (add_met kept x m))
      (kept_all P xs kept (All-tail P x xs all) h))
      (λ (f : met kept x ≡ false). subst (λ v. All P (fold add v xs)) (sym (add_new kept x f))
      (kept_all P xs (kept ++ x ∷ []) (All-tail P x xs all)
      (All-push P kept x h (All-head P x xs all))))
      (cases_Bool (met kept x))

-- one of two alike is enough, if what follows from one of them is like what follows from the other
module _ {X Y : Type 0} (P : X → Type 0) (close : X → X → Bool) (like : Y → Y → Bool)
    (is : IsLike like) (f : X → List Y)
    (follows : (a b : X) → P a → P b → close a b ≡ true → (z : Y) → Contains (f b) z
    → list_any (λ w. like w z) (f a) ≡ true) where
  contains_flat_any : (kept : List X) (a : X) (p : Y → Bool) → Contains kept a → list_any p (f a)
      ≡ true → list_any p (flat_map f kept) ≡ true
  contains_flat_any [] a p (k, low, e) t = absurd (omega (arith, low))
  contains_flat_any (x ∷ xs) a p (zero, low, e) t =
      list_any-append p (f x) (flat_map f xs) ∙ or_left (list_any p (f x))
      (list_any p (flat_map f xs)) (ap (λ v. list_any p (f v)) e ∙ t)
  contains_flat_any (x ∷ xs) a p (suc k, low, e) t =
      list_any-append p (f x) (flat_map f xs)
      ∙ or_right (list_any p (f x)) (list_any p (flat_map f xs))
      (contains_flat_any xs a p (k, omega (arith, low), e) t)

  all_follow : (kept : List X) (x : X) → All P kept → P x → list_any (λ y. close y x) kept ≡ true
      → All (λ z. list_any (λ y. like y z) (fold (add_first like) [] (flat_map f kept)) ≡ true)
      (f x)
  all_follow kept x all here t = λ k d low.
      let z = get_or (f x) k d in
      let found = found_any (λ y. close y x) kept t in
      let a = found.1 in
      let in_kept : Contains kept a = (found.0, found.2, found.3) in
      let there = contains_flat_any kept a (λ w. like w z) in_kept
      (follows a x (All-contains P kept a all in_kept) here found.4 z
      (Contains-get_or (f x) k d low)) in
      let w = found_any (λ y. like y z) (flat_map f kept) there in
      met_like like is (fold (add_first like) [] (flat_map f kept)) w.1 z
      (all_met like is (flat_map f kept) [] w.1 (w.0, w.2, w.3)) w.4

  pruned_from : (xs kept : List X) → All P xs → All P kept
      → fold (add_first like) (fold (add_first like) [] (flat_map f kept)) (flat_map f xs)
      ≡ fold (add_first like) [] (flat_map f (fold (add_first close) kept xs))
  pruned_from [] kept all h = refl
  pruned_from (x ∷ xs) kept all h =
      let acc = fold (add_first like) [] (flat_map f kept) in
      fold-append (add_first like) acc (f x) (flat_map f xs)
      ∙ ⊎_elim
      (λ (t : list_any (λ y. close y x) kept ≡ true).
      ap (λ v. fold (add_first like) v (flat_map f xs))
      (none_new like is (f x) acc (all_follow kept x h (All-head P x xs all) t))
      ∙ pruned_from xs kept (All-tail P x xs all) h
      ∙ ap (λ b. fold (add_first like) [] (flat_map f
      (fold (add_first close) (cond b kept (kept ++ x ∷ [])) xs))) (sym t))
      (λ (n : list_any (λ y. close y x) kept ≡ false).
      ap (λ v. fold (add_first like) v (flat_map f xs))
      (sym (fold-append (add_first like) [] (flat_map f kept) (f x))
      ∙ ap (fold (add_first like) []) (sym (flat_push kept x)))
      ∙ pruned_from xs (kept ++ x ∷ []) (All-tail P x xs all)
      (All-push P kept x h (All-head P x xs all))
      ∙ ap (λ b. fold (add_first like) [] (flat_map f
      (fold (add_first close) (cond b kept (kept ++ x ∷ [])) xs))) (sym n))
      (cases_Bool (list_any (λ y. close y x) kept))
    where
      flat_push : (kept : List X) (x : X) → flat_map f (kept ++ x ∷ []) ≡ flat_map f kept ++ f x
      flat_push kept x = flat_map-append f kept (x ∷ [])
          ∙ ap (λ v. flat_map f kept ++ v) (append-nil (f x))

  pub pruned : (xs : List X) → All P xs → firsts like (flat_map f (firsts close xs))
      ≡ firsts like (flat_map f xs)
  pruned xs all = sym (pruned_from xs [] all (All-nil P))
