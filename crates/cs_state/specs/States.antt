-- What a state keeps.
use Rattle.std.specs.Prelude.{◌≡◌, ◌==◌, ◌≤◌, ◌⊎◌, ℕ, cond, length, List, Option, Some}
use Rattle.std.specs.Option.{option_and_then, option_map}
use Rattle.std.specs.Arc.{arc_value}
use Rattle.cs_tree_model.specs.Tree.{NameBytes, Path, Tree}
use Rattle.cs_entries.specs.declared.entry.Entry.{Entry}
use Rattle.cs_entries.specs.declared.node.FileKind.{FileKind}
use Rattle.cs_entries.specs.declared.node.Node.{Node}
use Rattle.cs_entries.specs.declared.node.Node.TheVariants.{Directory, File}
use Rattle.cs_entries.specs.Paths.{entry_in}
use Rattle.cs_apm.specs.Slots.{Slot, entry_at, slot_at}
use Rattle.cs_state.specs.declared.state.State.{State}
use Rattle.cs_paths.specs.Marks.{kept_at}
use Rattle.cs_state.specs.Named.{place_of_entry}
use Rattle.cs_state.specs.Parts.{slots_shown, state_in, AreMembers, IsState}
use Rattle.cs_paths.specs.PathOrders.{path_of_id, place_of_id, position_by}
use Rattle.cs_state.specs.Shares.{count_standing, ids_by_path, number_of_id, places_by_path}
use Rattle.cs_state.specs.Shares.{positions_of}
use Rattle.cs_state.specs.Steps.{members_in}

-- the members of its set
abbrev pub places_in : State → List ℕ
places_in s = members_in s.members.items

pub record IsMade (s : State) : Type 0 where
  pub set : AreMembers (arc_value s.parts) s.members.items
  pub state : IsState (arc_value s.parts) (places_in s) s.moved s.own.items

-- what is at each id after its members
abbrev pub slots_in : State → List Slot
slots_in s = slots_shown (arc_value s.parts) (places_in s) s.moved

-- how many records it has: one for each id that has something, and the root's is one of them
abbrev pub count_shown : State → ℕ
count_shown s = count_standing (slots_in s) (length (slots_in s))

abbrev pub tree_in : State → Tree
tree_in s = state_in (arc_value s.parts) (places_in s)

-- the entries that ever hold something
abbrev pub entries_in : State → List Entry
entries_in s = (arc_value s.parts).tables.entries.items

-- the entries at which directories are in the state
abbrev pub positions_shown : State → List ℕ
positions_shown s =
    positions_of (arc_value s.parts).micros.ops (arc_value s.parts).tables s.moved

-- the path that an id has in the state
abbrev pub path_shown : State → ℕ → Path
path_shown s id =
    path_of_id (position_by (entries_in s) (positions_shown s))
    (length (arc_value s.parts).tables.directories.items) (entries_in s)
    (places_by_path (arc_value s.parts).shares s.moved) id

-- the entry with an id; the root has none
abbrev pub entry_of_id : State → ℕ → Option Entry
entry_of_id s id =
    option_map (entry_at (entries_in s))
    (place_of_id (places_by_path (arc_value s.parts).shares s.moved) id)

-- the number of what the entry at the place holds, if it holds something
abbrev pub number_of_place : State → ℕ → Option ℕ
number_of_place s place =
    number_of_id (slots_in s) (kept_at (ids_by_path (arc_value s.parts).shares s.moved) place)

-- the number of what the directory's entry of a name holds
abbrev pub number_shown : State → ℕ → NameBytes → Option ℕ
number_shown s directory name =
    option_and_then (number_of_place s)
    (place_of_entry (entries_in s) (entry_in directory name))

-- the number in the state of the directory with this number in the trace; the root has 0 in both
abbrev pub number_of_directory : State → ℕ → Option ℕ
number_of_directory s directory =
    cond (directory == 0) (Some 0) (number_of_place s (kept_at (positions_shown s) directory))

-- the number in the state is that of what the state has at an id
abbrev pub IsNumberOf : State → ℕ → ℕ → Node → Type 0
IsNumberOf s number id node =
    (slot_at (slots_in s) id ≡ Some node) × (number_of_id (slots_in s) id ≡ Some number)

-- the node is what has the number in the state
abbrev pub IsNodeAt : State → ℕ → Node → Type 0
IsNodeAt s number node = (id : ℕ) × IsNumberOf s number id node

-- the directory has the number in the state
abbrev pub IsDirectoryAt : State → ℕ → ℕ → Type 0
IsDirectoryAt s number d = (id : ℕ) × IsNumberOf s number id (Directory d)

-- a file has the number in the state, or nothing has it
abbrev pub IsNoDirectory : State → ℕ → Type 0
IsNoDirectory s number =
    ((id : ℕ) × (kind : FileKind) × (file : ℕ) × IsNumberOf s number id (File kind file))
    ⊎ (count_shown s ≤ number)
