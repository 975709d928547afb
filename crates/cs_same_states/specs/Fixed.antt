-- Which files are in slots that no step changes.
use Rattle.std.specs.Prelude.{◌≡◌, ◌<◌, ℕ, Bool, true, List, Some, length}
use Rattle.cs_apm.specs.Slots.{slot_at}
use Rattle.cs_apm.specs.declared.tables.Tables.{Tables}
use Rattle.cs_same_states.specs.Places.{IsUnlisted}
use Rattle.cs_same_states.specs.Slots.{file_in, flag_at}

-- each file that is at the start in a slot that isn't listed has its flag
abbrev pub AreFixed : Tables → List ℕ → List Bool → Type 0
AreFixed tables ids fixed =
    (id n : ℕ) → id < length tables.slots.items → IsUnlisted ids id
    → file_in (slot_at tables.slots.items id) ≡ Some n → n < length tables.owners.items
    → flag_at fixed n ≡ true
