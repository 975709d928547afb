-- Sets that lack one place, and what needs it.
use Rattle.std.specs.Prelude.{◌≡◌, ◌<◌, ◌≤◌, ◌==◌, ◌||◌, not, ℕ, Bool, true, false, List}
use Rattle.std.specs.List.{filter, range_with_len}
use Rattle.cs_sets.specs.Chains.{by_chain}
use Rattle.cs_sets.specs.Sets.{is_member}

-- k is kept if i is missing: it is another place, and doesn't need i by any chain
abbrev pub is_kept : (ℕ → ℕ → Bool) → ℕ → ℕ → Bool
is_kept needs i k = not (i == k || by_chain needs i k)

-- the places below an end without i and all that need it by any chain
abbrev pub hole : (ℕ → ℕ → Bool) → ℕ → ℕ → List ℕ
hole needs i end = filter (is_kept needs i) (range_with_len 0 end)

-- a set with place k and without place i
pub record Loses (i k : ℕ) (places : List ℕ) : Type 0 where
  pub has_later : is_member places k ≡ true
  pub lacks_earlier : is_member places i ≡ false

-- of the places up to k, the set lacks exactly i and what needs it by any chain, and it has none
-- beyond k
pub record LacksOne (needs : ℕ → ℕ → Bool) (i k : ℕ) (places : List ℕ) : Type 0 where
  pub below : (j : ℕ) → j ≤ k → is_member places j ≡ is_kept needs i j
  pub beyond : (j : ℕ) → k < j → is_member places j ≡ false
