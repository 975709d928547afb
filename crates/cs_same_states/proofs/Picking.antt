-- Two lists of places of which those that pass a test are the same.
use Rattle.std.proofs.Common.{◌≡◌, ℕ, ◌+◌, ◌<◌, Bool, true, false, cond, List, [], ◌∷◌, ◌++◌, length, take, drop, get_or, refl, sym, ap}
use Rattle.std.proofs.Common.{◌∙◌}
use Rattle.std.proofs.lemmas.List.{append-nil, take-append-drop}
use Rattle.cs_state.specs.Steps.{items_that_pass}
use Rattle.cs_state.proofs.Pages.{picked_end, picked_more}

pub nothing : {X : Type 0} (xs ys : List X) → xs ++ ys ≡ [] → (xs ≡ []) × (ys ≡ [])
nothing [] ys h = (refl, h)
nothing (x ∷ xs) ys h = absurd (cc h)

module _ (f : ℕ → Bool) where
  one_fails : (place : ℕ) → items_that_pass f (place ∷ []) ≡ [] → f place ≡ false
  one_fails place h = by (f place) h
    where
      by : (b : Bool) → cond b (place ∷ []) [] ++ [] ≡ [] → b ≡ false
      by true h = absurd (cc h)
      by false h = refl

  -- one that is found fails, and so do the others
  pub found_fails : (found new : List ℕ) (place : ℕ) → new ≡ found ++ place ∷ [] → items_that_pass f new ≡ []
      → (items_that_pass f found ≡ []) × (f place ≡ false)
  found_fails found new place is none =
      let both =
      nothing (items_that_pass f found) (items_that_pass f (place ∷ []))
      (sym (picked_end f found (place ∷ [])) ∙ ap (items_that_pass f) (sym is) ∙ none) in
      (both.0, one_fails place both.1)

  -- one more that fails
  pub one_skipped : (xs : List ℕ) (i : ℕ) → i < length xs → f (get_or xs i 0) ≡ false
      → items_that_pass f (take (i + 1) xs) ≡ items_that_pass f (take i xs)
  one_skipped xs i low fails =
      picked_more f xs i low ∙ ap (λ b. items_that_pass f (take i xs) ++ cond b (get_or xs i 0 ∷ []) []) fails ∙ append-nil
      (items_that_pass f (take i xs))

  -- one more of each
  pub both_taken : (xs ys : List ℕ) (i j : ℕ) → i < length xs → j < length ys → get_or xs i 0 ≡ get_or ys j 0
      → items_that_pass f (take i xs) ≡ items_that_pass f (take j ys)
      → items_that_pass f (take (i + 1) xs) ≡ items_that_pass f (take (j + 1) ys)
  both_taken xs ys i j low high same so_far =
      picked_more f xs i low ∙ (λ w. so_far w ++ cond (f (same w)) (same w ∷ []) []) ∙ sym (picked_more f ys j high)

  all_skipped : (xs : List ℕ) (i : ℕ) → items_that_pass f (drop i xs) ≡ [] → items_that_pass f xs ≡ items_that_pass f (take i xs)
  all_skipped xs i none =
      ap (items_that_pass f) (sym (take-append-drop i xs)) ∙ picked_end f (take i xs) (drop i xs) ∙ ap
      (λ r. items_that_pass f (take i xs) ++ r) none ∙ append-nil (items_that_pass f (take i xs))

  -- what is left of both is found
  pub rest_found : (xs ys found : List ℕ) (i j : ℕ)
      → (items_that_pass f found ≡ [] → items_that_pass f (take i xs) ≡ items_that_pass f (take j ys))
      → items_that_pass f ((found ++ drop i xs) ++ drop j ys) ≡ [] → items_that_pass f xs ≡ items_that_pass f ys
  rest_found xs ys found i j so_far none =
      let one =
      nothing (items_that_pass f (found ++ drop i xs)) (items_that_pass f (drop j ys))
      (sym (picked_end f (found ++ drop i xs) (drop j ys)) ∙ none) in
      let two = nothing (items_that_pass f found) (items_that_pass f (drop i xs)) (sym (picked_end f found (drop i xs)) ∙ one.0) in
      all_skipped xs i two.1 ∙ so_far two.0 ∙ sym (all_skipped ys j one.1)
