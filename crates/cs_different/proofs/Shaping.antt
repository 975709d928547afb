-- Sets whose shape no other has are kept without a comparison.
use Rattle.std.proofs.Common.{◌≡◌, ℕ, ◌<◌, ◌||◌, not, Bool, true, false, cond, List, [], ◌∷◌, ◌++◌, refl, sym, ap, ◌∙◌, arith, ⊎_elim}
use Rattle.std.proofs.Common.{get_or, length, map, take}
use Rattle.std.proofs.lemmas.Bool.{cases_Bool, false≢true, false_from_ne_true, not-false, not-true, or_from}
use Rattle.std.proofs.lemmas.List.{append-nil, get_or-take, get_or_default, length-take-le}
use Rattle.std.proofs.lemmas.List.Elements.{All-head, All-map, All-nil, All-tail, filter-append}
use Rattle.std.specs.List.{All, filter, list_any}
use Rattle.cs_sets.specs.Different.{add_first, firsts}
use Rattle.cs_different.proofs.Leading.{firsts_all}

none_any : {X : Type 0} (p : X → Bool) (xs : List X) → All (λ x. p x ≡ false) xs → list_any p xs ≡ false
none_any p [] none = refl
none_any p (x ∷ xs) none =
    or_from (p x) (list_any p xs) (All-head (λ y. p y ≡ false) x xs none) (none_any p xs (All-tail (λ y. p y ≡ false) x xs none))

module _ {X : Type 0} (P : X → Type 0) (like : X → X → Bool) (is_shared : X → Bool)
    (agree : (y x : X) → P y → P x → like y x ≡ true → is_shared x ≡ true → is_shared y ≡ true) where
  any_compared : (x : X) → P x → is_shared x ≡ true → (kept : List X) → All P kept
      → list_any (λ y. like y x) (filter is_shared kept) ≡ list_any (λ y. like y x) kept
  any_compared x p t [] all = refl
  any_compared x p t (y ∷ kept) all = ⊎_elim
      (λ (yes : is_shared y ≡ true).
      ap (λ b. list_any (λ z. like z x) (cond b (y ∷ filter is_shared kept) (filter is_shared kept))) yes
      ∙ ap (λ b. like y x || b) (any_compared x p t kept (All-tail P y kept all)))
      (λ (none : is_shared y ≡ false).
      ap (λ b. list_any (λ z. like z x) (cond b (y ∷ filter is_shared kept) (filter is_shared kept))) none
      ∙ any_compared x p t kept (All-tail P y kept all)
      ∙ sym (ap (λ b. b || list_any (λ z. like z x) kept)
      (false_from_ne_true (like y x) (λ l. false≢true (sym none ∙ agree y x (All-head P y kept all) p l t)))))
      (cases_Bool (is_shared y))

  -- a set with a shared shape is compared
  pub compared_met : (kept compared : List X) (x : X) (new : Bool) → All P kept → P x → compared ≡ filter is_shared kept
      → is_shared x ≡ true
      → new ≡ not (list_any (λ y. like y x) compared) → new ≡ false → kept ≡ add_first like kept x
  compared_met kept compared x new all p is t told f =
      sym (ap (λ b. cond b kept (kept ++ x ∷ []))
      (sym (any_compared x p t kept all) ∙ ap (list_any (λ y. like y x)) (sym is)
      ∙ not-false (list_any (λ y. like y x) compared) (sym told ∙ f)))

  pub compared_new : (kept compared : List X) (x : X) (new : Bool) → All P kept → P x → compared ≡ filter is_shared kept
      → is_shared x ≡ true
      → new ≡ not (list_any (λ y. like y x) compared) → new ≡ true → kept ++ x ∷ [] ≡ add_first like kept x
  compared_new kept compared x new all p is t told f =
      sym (ap (λ b. cond b kept (kept ++ x ∷ []))
      (sym (any_compared x p t kept all) ∙ ap (list_any (λ y. like y x)) (sym is)
      ∙ not-true (list_any (λ y. like y x) compared) (sym told ∙ f)))

  pub compared_stays : (kept compared now : List X) (x : X) (new : Bool) → compared ≡ filter is_shared kept
      → now ≡ add_first like compared x → new ≡ not (list_any (λ y. like y x) compared) → new ≡ false → now ≡ filter is_shared kept
  compared_stays kept compared now x new is added told f =
      added ∙ ap (λ b. cond b compared (compared ++ x ∷ [])) (not-false (list_any (λ y. like y x) compared) (sym told ∙ f)) ∙ is

  pub compared_grows : (kept compared now : List X) (x : X) (new : Bool) → compared ≡ filter is_shared kept → is_shared x ≡ true
      → now ≡ add_first like compared x → new ≡ not (list_any (λ y. like y x) compared) → new ≡ true
      → now ≡ filter is_shared (kept ++ x ∷ [])
  compared_grows kept compared now x new is t added told f =
      added ∙ ap (λ b. cond b compared (compared ++ x ∷ [])) (not-true (list_any (λ y. like y x) compared) (sym told ∙ f))
      ∙ ap (λ v. v ++ x ∷ []) is
      ∙ sym (filter-append is_shared kept (x ∷ []) ∙ ap (λ b. filter is_shared kept ++ cond b (x ∷ []) []) t)

  -- one with a shape of its own isn't
  pub alone_new : (kept : List X) (x : X) → list_any (λ y. like y x) kept ≡ false → kept ++ x ∷ [] ≡ add_first like kept x
  alone_new kept x none = sym (ap (λ b. cond b kept (kept ++ x ∷ [])) none)

  pub alone_stays : (kept compared : List X) (x : X) → compared ≡ filter is_shared kept → is_shared x ≡ false
      → compared ≡ filter is_shared (kept ++ x ∷ [])
  alone_stays kept compared x is f =
      is ∙ sym (filter-append is_shared kept (x ∷ []) ∙ ap (λ b. filter is_shared kept ++ cond b (x ∷ []) []) f
      ∙ append-nil (filter is_shared kept))

-- none of the sets before leaves the same as one with a shape of its own
pub none_before : {R X : Type 0} (like : X → X → Bool) (f : R → X) (rows : List R) (i : ℕ) (d : R) → i < length rows
    → ((k : ℕ) → k < i → like (f (get_or rows k d)) (f (get_or rows i d)) ≡ true → ⊥)
    → list_any (λ y. like y (f (get_or rows i d))) (firsts like (map f (take i rows))) ≡ false
none_before like f rows i d low none =
    let x = f (get_or rows i d) in
    none_any (λ y. like y x) (firsts like (map f (take i rows)))
    (firsts_all (λ y. like y x ≡ false) like (map f (take i rows)) []
    (All-map (λ y. like y x ≡ false) f (take i rows)
    (λ k e below. (let short = length-take-le i rows (omega (arith, low)) in
    let inside : k < i = omega (arith, below, short) in
    ap (λ r. like (f r) x) (get_or-take i rows k e inside ∙ get_or_default rows k e d (omega (arith, inside, low)))
    ∙ false_from_ne_true (like (f (get_or rows k d)) x) (none k inside))))
    (All-nil (λ y. like y x ≡ false)))
