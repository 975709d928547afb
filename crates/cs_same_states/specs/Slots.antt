-- Which files have a slot, and what two sets leave in a slot.
use Rattle.std.specs.Prelude.{◌≡◌, ◌<◌, ◌⊎◌, ℕ, Bool, false, true, List, length, slice_index_or}
use Rattle.std.specs.Prelude.{slice_set, Option, None, Some}
use Rattle.std.specs.Option.{option_map}
use Rattle.cs_entries.specs.declared.node.Node.TheVariants.{Directory, File}
use Rattle.cs_apm.specs.Slots.{Slot, slot_at}
use Rattle.cs_apm.specs.States.{State, record_of, start_state, state_of}
use Rattle.cs_same_states.specs.declared.pairs.Pair.{Pair}

-- ---- by the numbers of files

-- the file or symbolic link in the slot
abbrev pub file_in : Slot → Option ℕ
file_in (Some (File kind file)) = Some file
file_in (Some (Directory d)) = None
file_in None = None

abbrev pub flag_at : List Bool → ℕ → Bool
flag_at flags file = slice_index_or flags file false

-- the flag of the file in the slot is set
abbrev pub flagged : List Bool → Slot → List Bool
flagged flags (Some (File kind file)) = slice_set flags file true
flagged flags (Some (Directory d)) = flags
flagged flags None = flags

-- each file in a slot has its flag
pub record AreFlagged (slots : List Slot) (count : ℕ) (flags : List Bool) : Type 0 where
  pub long : length flags ≡ count
  pub each : (i file : ℕ) → i < length slots → file_in (slot_at slots i) ≡ Some file → file < count
      → flag_at flags file ≡ true

-- ---- two sets

-- the file is in one slot in both
abbrev pub IsInBoth : List Slot → List Slot → ℕ → Type 0
IsInBoth slots others file =
    (r : ℕ) × (r < length slots) × (file_in (slot_at slots r) ≡ Some file)
    × (file_in (slot_at others r) ≡ Some file)

-- what each set leaves
abbrev pub first_state : Pair → State
first_state p = state_of (start_state p.trace.now) p.ops.now p.places.now

abbrev pub second_state : Pair → State
second_state p = state_of (start_state p.trace.now) p.ops.now p.others.now

-- the record of what is in the slot, without its number
abbrev pub RecordsSame : Pair → Slot → Slot → Type 0
RecordsSame p slot other =
    option_map (record_of (first_state p)) slot ≡ option_map (record_of (second_state p)) other

-- both have a file or a symbolic link, with the same record
abbrev pub AreFilesAlike : Pair → Slot → Slot → Type 0
AreFilesAlike p (Some (File kind file)) (Some (File another other)) =
    RecordsSame p (Some (File kind file)) (Some (File another other))
AreFilesAlike p _ _ = ⊥

-- the same is there, or a file with the same record; directories are the same if they have one
-- number, since their entries are by number
abbrev pub AreAlike : Pair → Slot → Slot → Type 0
AreAlike p slot other = (slot ≡ other) ⊎ AreFilesAlike p slot other
