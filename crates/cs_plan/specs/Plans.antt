-- The plan of an order: the sets whose states are made, in the order of their numbers.
use Rattle.std.specs.Prelude.{ℕ, ◌<◌, ◌≤◌, ◌+◌, ◌==◌, ◌||◌, not, Bool, List, [], ◌++◌, length, map}
use Rattle.std.specs.Prelude.{if◌then◌else◌}
use Rattle.std.specs.List.{All, range_with_len, filter, flat_map}
use Rattle.cs_sets.specs.Chains.{by_chain}
use Rattle.cs_sets.specs.Orders.{needs_in}
use Rattle.cs_sets.specs.Sets.{IsAllowed}
use Rattle.cs_plan.specs.declared.recipe.Recipe.{Recipe}
use Rattle.cs_plan.specs.declared.recipe.Recipe.TheVariants.{Prefix, Hole, Pick}

-- the first n places
abbrev pub places_below : ℕ → List ℕ
places_below n = range_with_len 0 n

-- ---- the set of a recipe

-- k is kept if i is missing: it is another place, and doesn't need i by any chain
abbrev pub is_kept : (ℕ → ℕ → Bool) → ℕ → ℕ → Bool
is_kept needs i k = not (i == k || by_chain needs i k)

-- the first j places without i and all that need it by any chain
abbrev pub places_of_hole : (ℕ → ℕ → Bool) → ℕ → ℕ → List ℕ
places_of_hole needs i j = filter (is_kept needs i) (places_below j)

abbrev pub set_of : (ℕ → ℕ → Bool) → Recipe → List ℕ
set_of needs (Prefix k) = places_below k
set_of needs (Hole i j) = places_of_hole needs i j
set_of needs (Pick places) = places

-- the recipe has only places below n, and at most n of them
abbrev pub IsWithin : ℕ → Recipe → Type 0
IsWithin n (Prefix k) = k ≤ n
IsWithin n (Hole i j) = (i < j) × (j ≤ n)
IsWithin n (Pick places) = All (λ k. k < n) places × (length places ≤ n)

-- ---- the recipes

-- a prefix of each length, from the empty one to the whole
unfoldable pub prefixes : ℕ → List Recipe
prefixes n = map Prefix (places_below (n + 1))

-- the holes whose last place is k, if k is kept, by their missing place
abbrev pub holes_at : (ℕ → ℕ → Bool) → ℕ → List Recipe
holes_at needs k = map (λ i. Hole i (k + 1)) (filter (λ i. is_kept needs i k) (places_below k))

-- the holes of every last place
unfoldable pub holes_of : (ℕ → ℕ → Bool) → ℕ → List Recipe
holes_of needs n = flat_map (holes_at needs) (places_below n)

-- the prefixes, and the holes if `holes` is true
abbrev pub families : (ℕ → ℕ → Bool) → ℕ → Bool → List Recipe
families needs n holes = prefixes n ++ (if holes then holes_of needs n else [])

-- the families, and then the picks
abbrev pub recipes_of : (ℕ → ℕ → Bool) → ℕ → Bool → List (List ℕ) → List Recipe
recipes_of needs n holes picks = families needs n holes ++ map Pick picks

-- ---- of an order

abbrev pub plan_of : List (List Bool) → Bool → List (List ℕ) → List Recipe
plan_of order holes picks = recipes_of (needs_in order) (length order) holes picks

-- a crash may leave the set
abbrev pub IsAllowedIn : List (List Bool) → List ℕ → Type 0
IsAllowedIn order places = IsAllowed (needs_in order) (length order) places

abbrev pub set_in : List (List Bool) → Recipe → List ℕ
set_in order recipe = set_of (needs_in order) recipe
