-- Rows of bits.
use Rattle.std.specs.Prelude.{ℕ, ◌/◌, ◌%◌, ◌==◌, Bool, List, slice_index}
use Rattle.std.specs.Int.{bit_at}
use Rattle.cs_sets.specs.declared.row.Row.{Row}

-- whether the words have the bit of a place: 64 places to a word, from the lowest bit on
abbrev pub has_bit : List ℕ → ℕ → Bool
has_bit words place = bit_at (slice_index words (place / 64)) (place % 64) == 1

-- whether the row has a place
unfoldable pub has_place : Row → ℕ → Bool
has_place row place = has_bit row.words place
