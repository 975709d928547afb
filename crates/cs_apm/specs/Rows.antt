-- What each place needs, as a row of bits; for private clauses.
use Rattle.std.specs.Prelude.{◌≡◌, ℕ, Bool, Some, List, length, slice_get}
use Rattle.cs_sets.specs.declared.row.Row.{Row}
use Rattle.cs_sets.specs.Bits.{has_place}

abbrev pub IsRow : (ℕ → ℕ → Bool) → ℕ → Row → Type 0
IsRow needs j row = (i : ℕ) → has_place row i ≡ needs i j

-- a row for each of the first n places
pub record AreRows (needs : ℕ → ℕ → Bool) (n : ℕ) (rows : List Row) : Type 0 where
  pub long : length rows ≡ n
  pub each : (j : ℕ) (row : Row) → slice_get rows j ≡ Some row → IsRow needs j row
