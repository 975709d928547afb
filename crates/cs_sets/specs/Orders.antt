-- An order of places: for each of them, which of those before it it needs.
use Rattle.std.specs.Prelude.{ℕ, Bool, false, List, [], map, slice_index_or}
use Rattle.std.specs.List.{range_with_len}

-- a row for each place, with an entry for each place before it
unfoldable pub table : (ℕ → ℕ → Bool) → ℕ → List (List Bool)
table need n = map (λ j. map (λ i. need i j) (range_with_len 0 j)) (range_with_len 0 n)

-- what the table says: whether j needs i
unfoldable pub needs_in : List (List Bool) → ℕ → ℕ → Bool
needs_in order i j = slice_index_or (slice_index_or order j []) i false
