-- What the states of a plan cover.
use Rattle.std.specs.Prelude.{◌≡◌, ◌+◌, ◌<◌, ◌≤◌, ℕ, Bool, true, List}
use Rattle.std.specs.List.{Contains}
use Rattle.cs_sets.specs.Orders.{needs_in}
use Rattle.cs_plan.specs.Plans.{IsAllowedIn, is_kept, set_in}
use Rattle.cs_plan.specs.declared.recipe.Recipe.{Recipe}
use Rattle.cs_plan.specs.declared.recipe.Recipe.TheVariants.{Hole}

-- a set has place k and lacks place i
pub record Loses (i k : ℕ) (places : List ℕ) : Type 0 where
  pub has_later : Contains places k
  pub lacks_earlier : ¬ Contains places i

-- k is its last place, and before k it lacks i and what needs i by any chain, and nothing else
pub record LosesOne (needs : ℕ → ℕ → Bool) (i k : ℕ) (places : List ℕ) : Type 0 where
  pub loses : Loses i k places
  pub last : (j : ℕ) → Contains places j → j ≤ k
  pub others : (j : ℕ) → j < k → is_kept needs i j ≡ true → Contains places j

-- a state of the plan has k and lacks the earlier place i, if an allowed set does
abbrev pub HasPairs : List (List Bool) → List Recipe → Type 0
HasPairs order plan = (i k : ℕ) (places : List ℕ) → i < k → IsAllowedIn order places
    → Loses i k places
    → Contains plan (Hole i (k + 1)) × Loses i k (set_in order (Hole i (k + 1)))

-- each allowed set that loses just one place before its last, and what needs it, is in the plan
abbrev pub HasSingles : List (List Bool) → List Recipe → Type 0
HasSingles order plan = (i k : ℕ) (places : List ℕ) → i < k → IsAllowedIn order places
    → LosesOne (needs_in order) i k places
    → Contains plan (Hole i (k + 1)) × (places ≡ set_in order (Hole i (k + 1)))
