-- Futures with how many sets have each.
use Rattle.std.specs.Prelude.{◌≡◌, ◌≢◌, ℕ, ◌*◌, ◌-◌, ◌<◌, ◌≤◌, min, Bool, List, length}
use Rattle.std.specs.List.{All, AllPairs, Contains, filter, range_with_len, sum_by}
use Rattle.cs_sets.specs.declared.count.Future.{Future}
use Rattle.cs_sets.specs.Bits.{has_place}
use Rattle.cs_sets.specs.Chains.{by_chain}
use Rattle.cs_sets.specs.Every.{count, every, may}
use Rattle.cs_sets.specs.Sets.{IsAllowed}

-- of the first n places, those from k on that need no place below k that the set lacks
abbrev pub future_of : (ℕ → ℕ → Bool) → ℕ → ℕ → List ℕ → List ℕ
future_of needs n k places = filter (may needs k places) (range_with_len k (n - k))

-- no two of these sets have the same future at k
abbrev pub AreApart : (ℕ → ℕ → Bool) → ℕ → ℕ → List (List ℕ) → Type 0
AreApart needs n k sets = AllPairs (λ a b. future_of needs n k a ≢ future_of needs n k b) sets

-- for some place, the allowed sets of the places below it have more than so many different futures
-- there
pub record HasManyFutures (needs : ℕ → ℕ → Bool) (n most : ℕ) : Type 0 where
  pub place : ℕ
  pub inside : place ≤ n
  pub sets : List (List ℕ)
  pub many : most < length sets
  pub allowed : All (IsAllowed needs place) sets
  pub apart : AreApart (by_chain needs) n place sets

-- the same of the members, where what is needed is what is needed by any chain
pub record IsCrowded (needs : ℕ → ℕ → Bool) (n most : ℕ) : Type 0 where
  pub place : ℕ
  pub inside : place ≤ n
  pub sets : List (List ℕ)
  pub many : most < length sets
  pub members : All (Contains (every needs place)) sets
  pub apart : AreApart needs n place sets

-- how many sets extend those that have the future, by some of the m places from k on
abbrev pub weight : (ℕ → ℕ → Bool) → ℕ → ℕ → Future → ℕ
weight needs m k future = future.sets * count needs m k (has_place future.left)

abbrev pub weigh : (ℕ → ℕ → Bool) → ℕ → ℕ → List Future → ℕ
weigh needs m k futures = sum_by (weight needs m k) futures

-- the same number, or both are at least `most`
abbrev pub Capped : ℕ → ℕ → ℕ → Type 0
Capped most a b = min a most ≡ min b most
