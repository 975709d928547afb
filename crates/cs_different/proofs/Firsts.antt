-- The first elements of an ascending list, by a test of likeness.
use Rattle.std.proofs.Common.{◌≡◌, ℕ, zero, suc, ◌⊎◌, inl, inr, Bool, true, false}
use Rattle.std.proofs.Common.{List, [], ◌∷◌, ◌++◌, refl, sym, ap, ◌∙◌, arith, ⊎_elim, get_or, subst, fold}
use Rattle.std.proofs.lemmas.Bool.{cases_Bool, false≢true}
use Rattle.std.proofs.lemmas.Bool.Decides.{not_from_Decides}
use Rattle.std.proofs.lemmas.List.Elements.{All-nil, All-cons, All-head, All-tail, All-push, All-contains, Contains-append_cases}
use Rattle.std.specs.Bool.{Decides}
use Rattle.std.specs.List.{All, Contains, list_any}
use Rattle.cs_sets.specs.Chains.{IsBackward}
use Rattle.cs_sets.specs.Different.{add_first, firsts, IsLike}
use Rattle.cs_sets.specs.Every.{IsBefore, every}
use Rattle.cs_sets.specs.Sets.{IsAllowed}
use Rattle.cs_sets.specs.Laws.Ascending.{every_ordered}
use Rattle.cs_sets.specs.Laws.Complete.{each_allowed, has_each}
use Rattle.cs_sets.specs.Laws.Firsts.{add_met, add_new, all_met, apart, found_any, kept_all, met_like, met_stays}
use Rattle.cs_sets.specs.Laws.Lists.{Ordered, all_pairs, ordered_append}
use Rattle.cs_different.specs.FirstSets.{AreFirstSets}

none_in : {X : Type 0} (x : X) → Contains [] x → ⊥
none_in x (k, low, e) = absurd (omega (arith, low))

pub in_cons : {X : Type 0} (x y : X) (xs : List X) → Contains (x ∷ xs) y → (x ≡ y) ⊎ Contains xs y
in_cons x y xs (zero, low, e) = inl e
in_cons x y xs (suc k, low, e) = inr (k, omega (arith, low), e)

pub in_here : {X : Type 0} (x : X) (xs : List X) → Contains (x ∷ xs) x
in_here x xs = (0, omega arith, refl)

pub in_later : {X : Type 0} (x y : X) (xs : List X) → Contains xs y → Contains (x ∷ xs) y
in_later x y xs (k, low, e) = (suc k, omega (arith, low), e)

module _ {X : Type 0} (like : X → X → Bool) (is : IsLike like) (Before : X → X → Type 0) where
  abbrev met : List X → X → Bool
  met kept x = list_any (λ y. like y x) kept

  -- an element that is kept beside the old ones: none of these is like it, and it is the first of its kind
  record IsNew (kept xs : List X) (y : X) : Type 0 where
    pub there : Contains xs y
    pub fresh : met kept y ≡ false
    pub first : (z : X) → Contains xs z → like z y ≡ true → (y ≡ z) ⊎ Before y z

  not_met : (kept : List X) (x y : X) → met (add_first like kept x) y ≡ false → met kept y ≡ false
  not_met kept x y f = ⊎_elim
      (λ (t : met kept y ≡ true). absurd (false≢true (sym f ∙ met_stays like is (x ∷ []) kept y t)))
      (λ (g : met kept y ≡ false). g)
      (cases_Bool (met kept y))

  unlike : (kept : List X) (x y : X) → met (add_first like kept x) y ≡ false → like x y ≡ true → ⊥
  unlike kept x y f t =
      false≢true (sym f ∙ met_like like is (add_first like kept x) x y (all_met like is (x ∷ []) kept x (in_here x [])) t)

  new_or_kept : (xs kept : List X) → Ordered Before xs → (y : X) → Contains (fold (add_first like) kept xs) y
      → Contains kept y ⊎ IsNew kept xs y
  new_or_kept [] kept up y c = inl c
  new_or_kept (x ∷ xs) kept up y c = ⊎_elim
      (λ (old : Contains (add_first like kept x) y). from_old old)
      (λ (new : IsNew (add_first like kept x) xs y). inr (record {
        there = in_later x y xs new.there;
        fresh = not_met kept x y new.fresh;
        first = λ z there t. ⊎_elim
            (λ (e : x ≡ z). absurd (unlike kept x y new.fresh (ap (λ v. like v y) e ∙ t)))
            (λ (later : Contains xs z). new.first z later t)
            (in_cons x z xs there);
      }))
      (new_or_kept xs (add_first like kept x) up.1 y c)
    where
      itself : met kept x ≡ false → (y : X) → x ≡ y → IsNew kept (x ∷ xs) y
      itself f y e = subst (IsNew kept (x ∷ xs)) e (record {
        there = in_here x xs;
        fresh = f;
        first = λ z there t. ⊎_elim
            (λ (same : x ≡ z). inl same)
            (λ (later : Contains xs z). inr (All-contains (Before x) xs z up.0 later))
            (in_cons x z xs there);
      })

      from_old : Contains (add_first like kept x) y → Contains kept y ⊎ IsNew kept (x ∷ xs) y
      from_old old = ⊎_elim
          (λ (m : met kept x ≡ true). inl (subst (λ v. Contains v y) (add_met like is kept x m) old))
          (λ (f : met kept x ≡ false). ⊎_elim
          (λ (had : Contains kept y). inl had)
          (λ (added : Contains (x ∷ []) y). ⊎_elim
          (λ (e : x ≡ y). inr (itself f y e))
          (λ (none : Contains [] y). absurd (none_in y none))
          (in_cons x y [] added))
          (Contains-append_cases kept (x ∷ []) y (subst (λ v. Contains v y) (add_new like is kept x f) old)))
          (cases_Bool (met kept x))

  -- what is kept stands in order
  ordered_kept : (xs kept : List X) → Ordered Before kept → Ordered Before xs → All (λ y. All (Before y) xs) kept
      → Ordered Before (fold (add_first like) kept xs)
  ordered_kept [] kept h up across = h
  ordered_kept (x ∷ xs) kept h up across =
      let later : All (λ y. All (Before y) xs) kept = (λ k d low. All-tail (Before (get_or kept k d)) x xs (across k d low)) in
      ⊎_elim
      (λ (m : met kept x ≡ true). subst (λ v. Ordered Before (fold (add_first like) v xs)) (sym (add_met like is kept x m))
      (ordered_kept xs kept h up.1 later))
      (λ (f : met kept x ≡ false). subst (λ v. Ordered Before (fold (add_first like) v xs)) (sym (add_new like is kept x f))
      (ordered_kept xs (kept ++ x ∷ [])
      (ordered_append Before kept (x ∷ []) h (All-nil (Before x), tt)
      (λ k d low. All-cons (Before (get_or kept k d)) x [] (All-head (Before (get_or kept k d)) x xs (across k d low)) (All-nil (Before
      (get_or kept k d)))))
      up.1 (All-push (λ y. All (Before y) xs) kept x later up.0)))
      (cases_Bool (met kept x))

-- a test that decides a relation decides it for the lists too: of all sets of a kind, ascending
module _ (like : List ℕ → List ℕ → Bool) (is : IsLike like) (same : List ℕ → List ℕ → Type 0)
    (decides : (a b : List ℕ) → Decides (like a b) (same a b)) (Is : List ℕ → Type 0) (all : List (List ℕ))
    (are : All Is all) (has : (places : List ℕ) → Is places → Contains all places) (up : Ordered IsBefore all) where
  pub firsts_among : AreFirstSets same Is (firsts like all)
  firsts_among = record {
    are = kept_all like is Is all [] are (All-nil Is);
    each = λ places h.
        (let found = found_any (λ y. like y places) (firsts like all) (all_met like is all [] places (has places h)) in
        (found.1, ((found.0, found.2, found.3), (decides found.1 places).0 found.4)));
    apart = all_pairs (λ a b. ¬ same a b) (firsts like all) (weaker (firsts like all) (apart like is all [] tt));
    first = λ a places there h t. ⊎_elim
        (λ (none : Contains [] a). absurd (none_in a none))
        (λ (new : IsNew like is IsBefore [] all a). new.first places (has places h) ((decides places a).1 t))
        (new_or_kept like is IsBefore all [] up a there);
    ascending = all_pairs IsBefore (firsts like all)
        (ordered_kept like is IsBefore all [] tt up (All-nil (λ y. All (IsBefore y) all)));
  }
    where
      weaker : (xs : List (List ℕ)) → Ordered (λ a b. like a b ≡ false) xs → Ordered (λ a b. ¬ same a b) xs
      weaker [] h = tt
      weaker (x ∷ xs) h =
          ((λ k d low. not_from_Decides (like x (get_or xs k d)) (decides x (get_or xs k d)) (h.0 k d low)), weaker xs h.1)

-- of all that an order allows
pub firsts_are : (like : List ℕ → List ℕ → Bool) → IsLike like → (same : List ℕ → List ℕ → Type 0)
    → ((a b : List ℕ) → Decides (like a b) (same a b)) → (needs : ℕ → ℕ → Bool) → IsBackward needs → (n : ℕ)
    → AreFirstSets same (IsAllowed needs n) (firsts like (every needs n))
firsts_are like is same decides needs back n =
    firsts_among like is same decides (IsAllowed needs n) (every needs n) (each_allowed needs back n) (has_each needs back n)
    (every_ordered needs back n)
