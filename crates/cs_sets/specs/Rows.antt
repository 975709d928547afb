-- An order as rows of bits.
use Rattle.std.specs.Prelude.{◌≡◌, ℕ, ◌<◌, ◌≤◌, ◌&&◌, nat_lt, Bool, false, List, length, slice_get}
use Rattle.std.specs.Option.{option_map_or}
use Rattle.cs_sets.specs.declared.row.Row.{Row}
use Rattle.cs_sets.specs.Bits.{has_place}
use Rattle.cs_sets.specs.Chains.{by_chain, IsBackward}

-- row j has i: j needs i
unfoldable pub bit_in : List Row → ℕ → ℕ → Bool
bit_in rows i j = option_map_or (λ row. has_place row i) (slice_get rows j) false

-- row i has j: j needs i
unfoldable pub needed_in : List Row → ℕ → ℕ → Bool
needed_in rows i j = option_map_or (λ row. has_place row j) (slice_get rows i) false

-- rows of what is needed by any chain, for the first n places
abbrev pub AreReach : List Row → List Row → ℕ → Type 0
AreReach rows reach n = (k i : ℕ) → k < n → bit_in reach i k ≡ by_chain (bit_in rows) i k

-- rows of what needs a place, of rows of what a place needs
pub record AreColumns (rows columns : List Row) : Type 0 where
  pub long : length columns ≡ length rows
  pub each : (i j : ℕ) → i < length rows → needed_in columns i j
      ≡ (nat_lt j (length rows) && bit_in rows i j)

pub record IsOrder (rows reach : List Row) : Type 0 where
  pub few : length rows ≤ 1024
  pub same : length reach ≡ length rows
  pub backward : IsBackward (bit_in rows)
  pub reached : AreReach rows reach (length rows)

-- all that is kept of an order
pub record IsKept (rows reach needed : List Row) : Type 0 where
  pub order : IsOrder rows reach
  pub columns : AreColumns reach needed
