-- Words of a row.
use Rattle.std.specs.Prelude.{◌≡◌, ℕ, ◌<◌, ◌^◌, length, slice_index}
use Rattle.cs_sets.specs.declared.row.Row.{Row}

-- sixteen words of 64 bits
pub record IsSound (row : Row) : Type 0 where
  pub long : length row.words ≡ 16
  pub words : (i : ℕ) → i < 16 → slice_index row.words i < 2 ^ 64
