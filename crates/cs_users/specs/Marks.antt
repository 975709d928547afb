-- A bit for each row, 64 to a word.
use Rattle.std.specs.Prelude.{◌≡◌, ℕ, ◌<◌, ◌/◌, ◌%◌, ◌==◌, Bool, List, slice_index_or}
use Rattle.std.specs.Int.{bit_at}
use Rattle.std.specs.List.{list_any}

-- the bit of the row at that place is set
abbrev pub is_marked : List ℕ → ℕ → Bool
is_marked words place = bit_at (slice_index_or words (place / 64) 0) (place % 64) == 1

-- of the rows 0 to count - 1 exactly those at the places are marked
abbrev pub AreMarks : ℕ → List ℕ → List ℕ → Type 0
AreMarks count places words =
    (place : ℕ) → place < count
    → is_marked words place ≡ list_any (λ member. member == place) places
