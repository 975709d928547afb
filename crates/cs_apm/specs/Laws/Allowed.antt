-- Sets that one test of what is needed allows, and another that agrees with it.
use Rattle.std.proofs.Common.{◌≡◌, ◌<◌, ℕ, Bool, List, ◌∙◌}
use Rattle.cs_sets.specs.Sets.{IsAllowed}

-- tests that agree on what the places in range need allow the same sets
pub same_allowed : (p q : ℕ → ℕ → Bool) (n : ℕ) (places : List ℕ)
    → ((i j : ℕ) → j < n → p i j ≡ q i j) → IsAllowed p n places → IsAllowed q n places
same_allowed p q n places same allowed = record {
  ascending = allowed.ascending;
  in_range = allowed.in_range;
  closed = λ a i low is. allowed.closed a i low (same i _ (allowed.in_range a low) ∙ is);
}
