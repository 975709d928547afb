-- The name of a tree: a state's number, a slash, and a run's name.
use Rattle.std.specs.Prelude.{ℕ, Bool, false, ◌&&◌, ◌||◌, ◌==◌, not, List, [], ◌∷◌, length, nat_eq}
use Rattle.std.specs.Prelude.{nat_le, Option, Some, None, if◌then◌else◌}
use Rattle.std.specs.Char.{is_ascii_digit}
use Rattle.std.specs.Cmp.Lexicographic.{pointwise}
use Rattle.std.specs.List.{list_all}
use Rattle.cs_names.specs.Legal.{is_run_name}
use Rattle.cs_names.specs.Pieces.{pieces}

-- the digit 0 only
abbrev pub is_zero : List ℕ → Bool
is_zero digits = pointwise nat_eq digits (48 ∷ [])

-- 1 to 5 digits, with no zero before others
abbrev pub is_state_number : List ℕ → Bool
is_state_number [] = false
is_state_number (first ∷ others) =
    nat_le (length (first ∷ others)) 5
    && list_all is_ascii_digit (first ∷ others)
    && (not (first == 48) || length (first ∷ others) == 1)

-- two pieces, a state's number and the name of a run
abbrev pub name_of_pieces : List (List ℕ) → Option (List ℕ × List ℕ)
name_of_pieces [] = None
name_of_pieces (state ∷ []) = None
name_of_pieces (state ∷ run ∷ []) =
    if is_state_number state && is_run_name run then Some (state, run) else None
name_of_pieces (state ∷ run ∷ other ∷ others) = None

-- the two parts of a tree's name, if the bytes are one
abbrev pub tree_name_in : List ℕ → Option (List ℕ × List ℕ)
tree_name_in aname = name_of_pieces (pieces 47 aname)
