-- Lines that end with a carriage return.
use Rattle.std.specs.Prelude.{◌≡◌, ◌==◌, ℕ, ◌+◌, ◌<◌, Bool, List, Option, None, Some, count_by, take}
use Rattle.std.specs.Prelude.{◌++◌, codes, decimal, slice_get}
use Rattle.cs_inputs.specs.declared.returns.ReturnNote.{ReturnNote}

-- a carriage return is at the place, and a line feed after it
pub record HasReturnAt (bytes : List ℕ) (place : ℕ) : Type 0 where
  pub return : slice_get bytes place ≡ Some 13
  pub feed : slice_get bytes (place + 1) ≡ Some 10

abbrev pub is_feed : ℕ → Bool
is_feed byte = byte == 10

-- the line has the first of them: its number is that of the line feeds before it, and one more
pub record IsFirstIn (bytes : List ℕ) (line : ℕ) : Type 0 where
  pub place : ℕ
  pub there : HasReturnAt bytes place
  pub first : (other : ℕ) → other < place → HasReturnAt bytes other → ⊥
  pub counted : line ≡ count_by is_feed (take place bytes) + 1

-- the number of the first line that ends with a carriage return, if any does
abbrev pub IsFirstReturn : List ℕ → Option ReturnNote → Type 0
IsFirstReturn bytes (Some note) = IsFirstIn bytes note.line
IsFirstReturn bytes None = (place : ℕ) → HasReturnAt bytes place → ⊥

-- what is printed of that line
abbrev pub return_text : ℕ → List ℕ
return_text line =
    codes "users line "
    ++ (decimal line ++ codes " ends with a carriage return, which belongs to its last field")
