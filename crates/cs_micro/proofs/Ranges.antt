-- A list for each number of a range, joined.
use Rattle.std.proofs.Common.{◌≡◌, ℕ, ◌+◌, List, [], ◌∷◌, ◌++◌, map, sym, ap, ◌∙◌}
use Rattle.std.proofs.lemmas.Grind.{flat_map-append}
use Rattle.std.proofs.lemmas.List.{append-nil}
use Rattle.std.proofs.lemmas.List.Folds.{flat_map-map}
use Rattle.std.proofs.lemmas.List.FromFn.{map-range_with_len_more}
use Rattle.std.specs.List.{flat_map, range_with_len}

-- one number more
pub flat_map-range_more : {X : Type 0} (f : ℕ → List X) (a n j : ℕ) → a + n ≡ j
    → flat_map f (range_with_len a (n + 1)) ≡ flat_map f (range_with_len a n) ++ f j
flat_map-range_more f a n j is =
    let same : (k : ℕ) → flat_map f (map (λ i. i) (range_with_len a k)) ≡ flat_map f (range_with_len a k) =
    λ k. flat_map-map f (λ i. i) (range_with_len a k) in
    sym (same (n + 1)) ∙ ap (flat_map f) (map-range_with_len_more (λ i. i) a n j is)
    ∙ flat_map-append f (map (λ i. i) (range_with_len a n)) (j ∷ [])
    ∙ ap (λ v. v ++ (f j ++ [])) (same n) ∙ ap (λ v. flat_map f (range_with_len a n) ++ v) (append-nil (f j))
