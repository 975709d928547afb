-- The entries of a directory by their names, whatever a state has there.
use Rattle.std.specs.Prelude.{◌≡◌, ◌<◌, ◌≤◌, ℕ, List, Option, None, Some}
use Rattle.std.specs.List.{position_from}
use Rattle.std.specs.Cmp.Lexicographic.{slice_cmp}
use Rattle.std.specs.Ordering.{nat_cmp}
use Rattle.std.specs.declared.cmp.Ordering.TheVariants.{Less}
use Rattle.cs_tree_model.specs.Tree.{NameBytes}
use Rattle.cs_entries.specs.declared.entry.Entry.{Entry}
use Rattle.cs_entries.specs.Entries.{entry_eq}
use Rattle.cs_apm.specs.Slots.{entry_at}

-- the place of the entry among these, if it is one of them
abbrev pub place_of_entry : List Entry → Entry → Option ℕ
place_of_entry entries e = position_from (entry_eq e) 0 entries

-- the name comes after the last one, if there is one
abbrev pub IsAfterLast : Option NameBytes → NameBytes → Type 0
IsAfterLast None name = Unit {0}
IsAfterLast (Some last) name = slice_cmp nat_cmp last name ≡ Less

-- the name comes before the bound, if there is one
abbrev pub IsBeforeBound : Option NameBytes → NameBytes → Type 0
IsBeforeBound None name = Unit {0}
IsBeforeBound (Some bound) name = slice_cmp nat_cmp name bound ≡ Less

-- the entries from the first place on and before the second are those of the directory whose names
-- come after the last one
pub record AreAfterName (entries : List Entry) (directory : ℕ) (last : Option NameBytes)
    (first end : ℕ) : Type 0 where
  pub inside : (place : ℕ) → first ≤ place → place < end
      → ((entry_at entries place).directory ≡ directory)
      × IsAfterLast last (entry_at entries place).name
  pub every : (e : Entry) (place : ℕ) → place_of_entry entries e ≡ Some place
      → e.directory ≡ directory → IsAfterLast last e.name → (first ≤ place) × (place < end)
