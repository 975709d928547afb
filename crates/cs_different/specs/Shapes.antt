-- Shapes: which entries of the root hold something.
use Rattle.std.specs.Prelude.{◌≡◌, ◌<◌, ◌==◌, ℕ, Bool, true, List, cond, fold, is_some, length, map}
use Rattle.std.specs.Prelude.{slice_index}
use Rattle.std.specs.BTreeSet.{contains}
use Rattle.std.specs.List.{All, filter, range_with_len}
use Rattle.std.specs.Ordering.{nat_cmp}
use Rattle.cs_apm.specs.declared.tables.Tables.{Tables}
use Rattle.cs_apm.specs.Slots.{Slot, entry_at, slot_at, slots_after, step_at}
use Rattle.cs_entries.specs.declared.entry.Entry.{Entry}
use Rattle.cs_plan.specs.Scenes.{Scene}
use Rattle.cs_sets.specs.Places.{places_of}
use Rattle.cs_different.specs.declared.finding.Kept.{Kept}
use Rattle.cs_different.specs.Digests.{with_part}
use Rattle.cs_different.specs.Sets.{AreTold, IsFound, IsLeavable, sets_of}

-- the digest of a sequence with one more entry, if it is the root's: whether it holds something
abbrev pub with_slot : Entry → Slot → ℕ → ℕ
with_slot entry slot digest =
    cond (entry.directory == 0) (with_part digest (cond (is_some slot) 1 0)) digest

-- the shape of what these slots hold
unfoldable pub shape_of_slots : List Entry → List Slot → ℕ
shape_of_slots es ss =
    fold (λ digest i. with_slot (entry_at es i) (slot_at ss i) digest) 0 (range_with_len 0 (length
    es))

-- the shape of what a set leaves
abbrev pub shape_left : Tables → List ℕ → ℕ
shape_left t places =
    shape_of_slots t.entries.items
    (fold slots_after t.slots.items (map (step_at t.steps.items) places))

-- these numbers are noted that are there twice
abbrev pub AreShared : (ℕ → Bool) → List ℕ → Type 0
AreShared has xs = (a b : ℕ) → a < b → b < length xs → slice_index xs a ≡ slice_index xs b
    → has (slice_index xs b) ≡ true

-- those of the sets that were kept whose shape is shared are compared
pub record IsKept (s : Scene) (t : Tables) (shared : ℕ → Bool) (kept : Kept) : Type 0 where
  pub compared : sets_of kept.compared.items
      ≡ filter (λ places. shared (shape_left t places)) (map places_of kept.rows.items)
  pub leavable : All (IsLeavable s) (map places_of kept.rows.items)
  pub found : All (IsFound s) kept.compared.items
  pub met : AreTold (contains nat_cmp kept.met) kept.compared.items
