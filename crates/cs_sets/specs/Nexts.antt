-- Steps from an allowed set to the next.
use Rattle.std.specs.Prelude.{◌≡◌, ℕ, Bool, true, false, List, [], Option, IfSome}
use Rattle.std.specs.Option.{option_map_or}
use Rattle.cs_sets.specs.declared.row.Row.{Row}
use Rattle.cs_sets.specs.Following.{HasNoneFree, IsLastFree, cut_with, every_from}
use Rattle.cs_sets.specs.Places.{IsSet, places_of}

-- the last place that can be added is, and nothing is beyond it; or there is none, and nothing is
-- left
abbrev pub IsAdded : (ℕ → ℕ → Bool) → ℕ → (ℕ → Bool) → (ℕ → Bool) → Bool → Type 0
IsAdded needs n old new true = (k : ℕ) × (IsLastFree needs old n k
    × ((i : ℕ) → new i ≡ cut_with old k i))
IsAdded needs n old new false = HasNoneFree needs old 0 n × ((i : ℕ) → new i ≡ false)

-- the members from a set on, if there is one
abbrev pub sets_from : (ℕ → ℕ → Bool) → ℕ → Option Row → List (List ℕ)
sets_from needs n next = option_map_or (λ row. every_from needs n (places_of row)) next []

abbrev pub AreKept : (ℕ → ℕ → Bool) → ℕ → Option Row → Type 0
AreKept needs n next = IfSome next (IsSet needs n)
