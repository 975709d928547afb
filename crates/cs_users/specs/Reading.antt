-- The users file: lines `id:name:leader:members`, the members with commas between them.
use Rattle.std.specs.Prelude.{◌≡◌, ℕ, ◌+◌, Bool, true, false, ◌==◌, List, [], ◌∷◌, ◌++◌, length}
use Rattle.std.specs.Prelude.{nat_lt, Option, Some, None, Result, Ok, Err, if◌then◌else◌}
use Rattle.std.specs.List.{filter_map}
use Rattle.std.specs.Option.{option_map_or}
use Rattle.std.specs.Str.{IsUtf8}
use Rattle.cs_names.specs.Texts.{has_nul, is_text}
use Rattle.cs_names.specs.Pieces.{pieces}
use Rattle.cs_names.specs.declared.limits.TheConstants.{USER_NAME_BYTES}
use Rattle.cs_users.specs.Rows.{Row}
use Rattle.cs_users.specs.Members.{is_known, same_name}
use Rattle.cs_users.specs.declared.fault.UsersFault.{UsersFault}
use Rattle.cs_users.specs.declared.fault.UsersFault.TheVariants.{NotText, FieldCount, EmptyName}
use Rattle.cs_users.specs.declared.fault.UsersFault.TheVariants.{LongName, Twice}

-- an empty line, or one that begins with `#`
abbrev pub is_skipped : List ℕ → Bool
is_skipped [] = true
is_skipped (c ∷ line) = c == 35

-- exactly four fields as a row
abbrev pub row_of_fields : List (List ℕ) → Option Row
row_of_fields [] = None
row_of_fields (id ∷ []) = None
row_of_fields (id ∷ name ∷ []) = None
row_of_fields (id ∷ name ∷ leader ∷ []) = None
row_of_fields (id ∷ name ∷ leader ∷ members ∷ []) = Some (record {
  id = id;
  name = name;
  leader = leader;
  members = pieces 44 members;
})
row_of_fields (id ∷ name ∷ leader ∷ members ∷ more ∷ others) = None

-- the row that the line spells, if it spells one
abbrev pub row_in : List ℕ → Option Row
row_in line = if is_skipped line then None else row_of_fields (pieces 58 line)

-- the rows that the lines spell
abbrev pub rows_in : List (List ℕ) → List Row
rows_in lines = filter_map row_in lines

-- the line spells a row of that name
abbrev pub names : List ℕ → List ℕ → Bool
names name line = option_map_or (λ row. same_name row.name name) (row_in line) false

-- what is wrong with the name on the line of this number; is_taken: an earlier line has it
abbrev pub fault_of_name : Bool → ℕ → List ℕ → Option UsersFault
fault_of_name is_taken number name =
    if length name == 0 then Some (EmptyName number)
    else (if nat_lt USER_NAME_BYTES (length name) then Some (LongName number)
    else (if is_taken then Some (Twice number) else None))

-- what is wrong with the line of this number, which these rows precede
abbrev pub fault_of_line : List Row → ℕ → List ℕ → Option UsersFault
fault_of_line rows number line =
    if is_skipped line then None
    else option_map_or (λ row. fault_of_name (is_known rows row.name) number row.name) (row_in line)
    (Some (FieldCount number))

-- the first of the faults, if there is one
abbrev pub or_else : Option UsersFault → Option UsersFault → Option UsersFault
or_else None later = later
or_else (Some fault) later = Some fault

-- what is wrong with the first bad line of the second list; the lines of the first list precede it,
-- and lines count from 1
abbrev pub first_fault : List (List ℕ) → List (List ℕ) → Option UsersFault
first_fault before [] = None
first_fault before (line ∷ lines) =
    or_else (fault_of_line (rows_in before) (length before + 1) line)
    (first_fault (before ++ line ∷ []) lines)

-- UTF-8 without NUL
pub record IsText (bytes : List ℕ) : Type 0 where
  pub utf8 : IsUtf8 bytes
  pub no_nul : has_nul bytes ≡ false

-- the rows of the lines, or the fault of the first bad one
abbrev pub rows_or_fault : List (List ℕ) → Result (List Row) UsersFault
rows_or_fault lines = option_map_or Err (first_fault [] lines) (Ok (rows_in lines))

-- the bytes as a users file, or the first fault
abbrev pub users_in : List ℕ → Result (List Row) UsersFault
users_in bytes = if is_text bytes then rows_or_fault (pieces 10 bytes) else Err NotText
