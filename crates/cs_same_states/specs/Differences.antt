-- Which places are in only one of two sets.
use Rattle.std.specs.Prelude.{◌≡◌, ℕ, Bool, List, []}
use Rattle.cs_state.specs.Steps.{items_that_pass}

-- the places of both sets that pass a test are the same, if no place that was found passes it
abbrev pub AreDiffering : List ℕ → List ℕ → List ℕ → Type 0
AreDiffering places others found =
    (f : ℕ → Bool) → items_that_pass f found ≡ []
    → items_that_pass f places ≡ items_that_pass f others
