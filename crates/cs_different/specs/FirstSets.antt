-- Of all sets of a kind, the first of those that are the same.
use Rattle.std.specs.Prelude.{◌≡◌, ◌⊎◌, ℕ, List}
use Rattle.std.specs.List.{All, AllPairs, Contains}
use Rattle.cs_sets.specs.Every.{IsBefore}

-- for each set of the kind, one of these is the same; all of these are different; each is the first
-- of those that are the same, in the order of sets; and they are in this order
pub record AreFirstSets (same : List ℕ → List ℕ → Type 0) (Is : List ℕ → Type 0)
    (sets : List (List ℕ)) : Type 0 where
  pub are : All Is sets
  pub each : (places : List ℕ) → Is places → (a : List ℕ) × (Contains sets a × same a places)
  pub apart : AllPairs (λ a b. ¬ same a b) sets
  pub first : (a places : List ℕ) → Contains sets a → Is places → same places a
      → (a ≡ places) ⊎ IsBefore a places
  pub ascending : AllPairs IsBefore sets
