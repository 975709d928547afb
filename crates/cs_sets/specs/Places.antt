-- The places of a row, as a list.
use Rattle.std.specs.Prelude.{◌≡◌, ◌≤◌, ℕ, Bool, false, List}
use Rattle.cs_sets.specs.declared.row.Row.{Row}
use Rattle.cs_sets.specs.Bits.{has_place}
use Rattle.cs_sets.specs.Following.{IsClosed, chosen}

-- ascending
unfoldable pub places_of : Row → List ℕ
places_of row = chosen (has_place row) 1024

-- the row has places below n only
abbrev pub IsWithin : ℕ → Row → Type 0
IsWithin n row = (k : ℕ) → n ≤ k → has_place row k ≡ false

-- and with each place what it needs
pub record IsSet (needs : ℕ → ℕ → Bool) (n : ℕ) (row : Row) : Type 0 where
  pub within : IsWithin n row
  pub closed : IsClosed needs n (has_place row)
