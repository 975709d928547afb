-- The opens of a run: each has a number and the pass that made it.
use Rattle.std.specs.Prelude.{ℕ, ◌<◌, ◌==◌, ◌&&◌, Bool, List, Option, None, Some, option_and_then}
use Rattle.std.specs.Prelude.{slice_get, remove}
use Rattle.std.specs.Option.{option_map_or}
use Rattle.std.specs.List.{All, AllPairs, position}
use Rattle.cs_permit.specs.declared.call.OpenFile.{OpenFile}

-- the opens, and how many more there is room for
pub record OpensKept : Type 0 where
  pub items : List OpenFile
  pub room : ℕ

-- each has a greater number than those before it
abbrev pub IsAscending : List OpenFile → Type 0
IsAscending opens = AllPairs (λ one later. one.number < later.number) opens

-- this number is above all of theirs
abbrev pub AreBelow : ℕ → List OpenFile → Type 0
AreBelow number opens = All (λ o. o.number < number) opens

-- the open has the number, and the pass made it
abbrev pub is_open : ℕ → ℕ → OpenFile → Bool
is_open number pass o = o.number == number && o.pass == pass

-- the open of that number and pass, if there is one
abbrev pub open_numbered : ℕ → ℕ → List OpenFile → Option OpenFile
open_numbered number pass opens =
    option_and_then (slice_get opens) (position (is_open number pass) opens)

-- the opens without the open of that number and pass
abbrev pub opens_without : ℕ → ℕ → List OpenFile → List OpenFile
opens_without number pass opens =
    option_map_or (remove opens) (position (is_open number pass) opens) opens

-- the opens without the open of that pass and of that number, if a number is given
abbrev pub opens_without_if : Option ℕ → ℕ → List OpenFile → List OpenFile
opens_without_if None pass opens = opens
opens_without_if (Some number) pass opens = opens_without number pass opens
