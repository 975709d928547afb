-- The order of the paths that entries have, which depends on the moves of directories that a state
-- keeps. A place is one among all entries, in the order of entries. An id is a place in the order
-- of paths: the root's is 0, and entries have those from 1 on.
use Rattle.std.specs.Prelude.{◌≡◌, ◌≢◌, ◌+◌, ◌<◌, ◌∷◌, ℕ, zero, suc, cond, Bool, false, List, []}
use Rattle.std.specs.FinMap.{get}
use Rattle.std.specs.Prelude.{Option, None, Some, fold, length, map, nat_lt, replicate, slice_get}
use Rattle.std.specs.Prelude.{slice_set, take}
use Rattle.std.specs.List.{All}
use Rattle.std.specs.Option.{option_map_or}
use Rattle.std.specs.declared.cmp.Ordering.TheVariants.{Greater}
use Rattle.cs_tree_model.specs.Tree.{Path, path_cmp}
use Rattle.cs_entries.specs.declared.entry.Entry.{Entry}
use Rattle.cs_entries.specs.declared.node.Node.TheVariants.{Directory}
use Rattle.cs_entries.specs.Positions.{climb_entry}
use Rattle.cs_entries.specs.Rules.{moves_directory}
use Rattle.cs_entries.specs.Tables.{Table}
use Rattle.cs_sets.specs.Sets.{is_member}
use Rattle.cs_micro.specs.declared.micro_op.MicroOp.{MicroOp}
use Rattle.cs_micro.specs.declared.micro_op.MicroOp.TheVariants.{MoveDirEntry}
use Rattle.cs_apm.specs.Rules.{entry_op_at, op_at}
use Rattle.cs_apm.specs.Slots.{Slot, entry_at, slot_at, step_at}
use Rattle.cs_apm.specs.declared.slot.Step.{Step}
use Rattle.cs_apm.specs.declared.slot.Step.TheVariants.{Set, Move}
use Rattle.cs_apm.specs.declared.tables.Tables.{Tables}
use Rattle.cs_paths.specs.declared.path_order.PathOrder.{PathOrder}
use Rattle.cs_paths.specs.declared.path_orders.PathOrders.{PathOrders}
use Rattle.cs_paths.specs.Marks.{IsKept, kept_at, mark_at, numbers_that_pass}

-- ---- the moves of directories

-- the places of the micro-operations that move a directory
abbrev pub directory_moves : List MicroOp → List ℕ
directory_moves ops = numbers_that_pass (λ k. moves_directory (entry_op_at ops k)) (length ops)

-- the directory that the micro-operation moves
abbrev pub moved_directory : MicroOp → Option ℕ
moved_directory (MoveDirEntry a b (Directory d) old) = Some d
moved_directory _ = None

-- how many of a set's members, which are at these places, move a directory
abbrev pub moves_kept : List MicroOp → List ℕ → ℕ
moves_kept ops [] = 0
moves_kept ops (k ∷ ks) = cond (moves_directory (entry_op_at ops k)) 1 0 + moves_kept ops ks

-- of the moves of directories, the set has the first t and no other
abbrev pub KeepsFirst : List MicroOp → List ℕ → ℕ → Type 0
KeepsFirst ops places t =
    (i : ℕ) → i < length (directory_moves ops)
    → is_member places (kept_at (directory_moves ops) i) ≡ nat_lt i t

-- ---- where directories are

-- the homes with this place noted as that of the node there, if it is a directory
abbrev pub with_home : List ℕ → ℕ → Slot → List ℕ
with_home homes place (Some (Directory d)) = slice_set homes d place
with_home homes place _ = homes

-- the homes of the directories that the slots have at the start, of which the first has this place
abbrev pub homes_from : List ℕ → ℕ → List Slot → List ℕ
homes_from homes place [] = homes
homes_from homes place (s ∷ ss) = homes_from (with_home homes place s) (place + 1) ss

-- the homes after a step: one that puts a directory into a slot makes the directory there
abbrev pub home_after : List ℕ → Step → List ℕ
home_after homes (Set i s) = with_home homes i s
home_after homes _ = homes

-- the home of each of `count` directories: the place of its entry at the start, or of the entry at
-- which it is made
abbrev pub homes_in : ℕ → List Slot → List Step → List ℕ
homes_in count slots steps = fold home_after (homes_from (replicate count 0) 0 slots) steps

-- where each directory is after a micro-operation, whose step this is: the place of its entry
abbrev pub moved_to : List ℕ → MicroOp → Step → List ℕ
moved_to positions (MoveDirEntry a b (Directory d) old) (Move i j) = slice_set positions d j
moved_to positions _ _ = positions

abbrev pub moved_at : List MicroOp → List Step → List ℕ → ℕ → List ℕ
moved_at ops steps positions k = moved_to positions (op_at ops k) (step_at steps k)

-- where each directory is after the first t moves of directories, from where it is before all
abbrev pub positions_in : List MicroOp → List Step → List ℕ → ℕ → List ℕ
positions_in ops steps homes t = fold (moved_at ops steps) homes (take t (directory_moves ops))

-- the entry at which each directory is. (One past the list is never in a state: it counts as being
-- at the first entry.)
abbrev pub position_by : List Entry → List ℕ → ℕ → Entry
position_by entries positions d = entry_at entries (kept_at positions d)

-- each directory that the table has is at its position
abbrev pub AreAtPositions : Table → List Entry → List ℕ → Type 0
AreAtPositions table entries positions =
    (e : Entry) (d : ℕ) → get table e ≡ Some (Directory d) → position_by entries positions d ≡ e

-- there is a position for each directory, and if there are entries, each position is the place of
-- one
abbrev pub ArePositions : ℕ → ℕ → List ℕ → Type 0
ArePositions entries directories positions =
    (length positions ≡ directories) × (0 < entries → (d : ℕ) → kept_at positions d < entries)

-- the node, if it is a directory, has a number below `directories`
abbrev pub IsBelow : ℕ → Slot → Type 0
IsBelow directories (Some (Directory d)) = d < directories
IsBelow directories _ = Unit {0}

abbrev pub StepIsBelow : ℕ → Step → Type 0
StepIsBelow directories (Set i s) = IsBelow directories s
StepIsBelow directories _ = Unit {0}

-- ---- the order of paths

-- the path of the entry at a place, where directories are at these positions
abbrev pub path_of_place : (ℕ → Entry) → ℕ → List Entry → ℕ → Path
path_of_place at deep entries place = climb_entry at deep (entry_at entries place)

-- the path of each of the entries, with its place; the first of them has this place
abbrev pub paths_of_places : (ℕ → Entry) → ℕ → List Entry → ℕ → List (Path × ℕ)
paths_of_places at deep [] place = []
paths_of_places at deep (e ∷ es) place =
    (climb_entry at deep e, place) ∷ paths_of_places at deep es (place + 1)

-- the place of the entry with an id; the root has none
abbrev pub place_of_id : List ℕ → ℕ → Option ℕ
place_of_id places zero = None
place_of_id places (suc k) = slice_get places k

-- the path of an id
abbrev pub path_of_id : (ℕ → Entry) → ℕ → List Entry → List ℕ → ℕ → Path
path_of_id at deep entries places zero = []
path_of_id at deep entries places (suc k) = path_of_place at deep entries (kept_at places k)

-- each place below `entries` is in the list, once
pub record ArePlaces (entries : ℕ) (places : List ℕ) : Type 0 where
  pub long : length places ≡ entries
  pub low : All (λ place. place < entries) places
  pub once : (i j : ℕ) → i < j → j < length places → kept_at places i ≢ kept_at places j
  pub there : (place : ℕ) → place < entries → IsKept places place

-- the paths of the places don't descend. Two places may have the same path; at most one of them
-- holds something in a state
abbrev pub AreInOrder : (ℕ → Entry) → ℕ → List Entry → List ℕ → Type 0
AreInOrder at deep entries places =
    (i j : ℕ) → i < j → j < length places
    → path_cmp (path_of_place at deep entries (kept_at places i))
    (path_of_place at deep entries (kept_at places j)) ≢ Greater

-- each place has its id
pub record AreInverse (places ids : List ℕ) : Type 0 where
  pub long : length ids ≡ length places
  pub back : (k : ℕ) → k < length places → kept_at ids (kept_at places k) ≡ k + 1

-- the order is that of the entries' paths, where directories, of which there are so many, are at
-- these positions
pub record IsPathOrder (entries : List Entry) (directories : ℕ) (positions : List ℕ)
    (o : PathOrder) : Type 0 where
  pub placed : o.positions.items ≡ positions
  pub each : ArePlaces (length entries) o.places.items
  pub back : AreInverse o.places.items o.ids.items
  pub ordered : AreInOrder (position_by entries positions) directories entries o.places.items

-- ---- of a trace

-- the homes of the directories of the tables
abbrev pub homes_of : Tables → List ℕ
homes_of tables =
    homes_in (length tables.directories.items) tables.slots.items tables.steps.items

-- where the directories are after the first t moves of directories
abbrev pub positions_of : List MicroOp → Tables → ℕ → List ℕ
positions_of ops tables t = positions_in ops tables.steps.items (homes_of tables) t

-- the orders are those of the tables: for each number of moves there is one
pub record ArePathOrders (ops : List MicroOp) (tables : Tables) (found : PathOrders) : Type 0 where
  pub moves : found.moves.items ≡ directory_moves ops
  pub long : length found.orders.items ≡ length found.moves.items + 1
  pub each : (t : ℕ) (o : PathOrder) → slice_get found.orders.items t ≡ Some o
      → IsPathOrder tables.entries.items (length tables.directories.items)
      (positions_of ops tables t) o

-- the lists of the order after t moves; empty past all moves
abbrev pub in_order : (PathOrder → List ℕ) → PathOrders → ℕ → List ℕ
in_order list found t = option_map_or list (slice_get found.orders.items t) []

-- the places of the entries by their paths
abbrev pub places_after : PathOrders → ℕ → List ℕ
places_after = in_order (λ o. o.places.items)

-- the ids of the entries
abbrev pub ids_after : PathOrders → ℕ → List ℕ
ids_after = in_order (λ o. o.ids.items)

-- ---- what is at the ids

-- what is at each id: the root's directory, and then what the slots at the places have
abbrev pub slots_by_path : List ℕ → List Slot → List Slot
slots_by_path places slots = Some (Directory 0) ∷ map (slot_at slots) places

-- the mark of each id: false for the root, and then the marks at the places
abbrev pub marks_by_path : List ℕ → List Bool → List Bool
marks_by_path places marks = false ∷ map (mark_at marks) places
