-- What the entries of a state hold as slots: one for each entry that the start has or an operation
-- touches, in the order of entries.
use Rattle.std.specs.Prelude.{◌≡◌, ◌<◌, ◌≤◌, ℕ, cond, List, [], ◌∷◌, Option, None, Some, length}
use Rattle.std.specs.Prelude.{slice_set, slice_index_or}
use Rattle.std.specs.FinMap.{get, from_sorted}
use Rattle.std.specs.Option.{option_map_or}
use Rattle.std.specs.declared.cmp.Ordering.{Ordering}
use Rattle.std.specs.declared.cmp.Ordering.TheVariants.{Less}
use Rattle.cs_entries.specs.declared.node.Node.{Node}
use Rattle.cs_entries.specs.declared.node.Node.TheVariants.{Directory, File}
use Rattle.cs_entries.specs.DirEntries.{entry_of, root_home}
use Rattle.cs_entries.specs.declared.entry.Entry.{Entry}
use Rattle.cs_entries.specs.Entries.{entry_eq}
use Rattle.cs_entries.specs.Tables.{Table, entry_cmp}
use Rattle.cs_micro.specs.declared.micro_op.MicroOp.{MicroOp}
use Rattle.cs_micro.specs.declared.micro_op.MicroOp.TheVariants.{CreateDirEntry, DeleteDirEntry}
use Rattle.cs_micro.specs.declared.micro_op.MicroOp.TheVariants.{MoveDirEntry, LinkDirEntry}
use Rattle.cs_micro.specs.declared.micro_op.MicroOp.TheVariants.{ChangeFileSize, WriteBlock}
use Rattle.cs_micro.specs.declared.micro_op.MicroOp.TheVariants.{SetAttr, Say}
use Rattle.cs_apm.specs.declared.slot.Step.{Step}
use Rattle.cs_apm.specs.declared.slot.Step.TheVariants.{Set, Move, Other}

-- what the entry holds; None if it holds nothing
abbrev pub Slot : Type 0
Slot = Option Node

abbrev pub slot_at : List Slot → ℕ → Slot
slot_at slots i = slice_index_or slots i None

abbrev pub step_at : List Step → ℕ → Step
step_at steps i = slice_index_or steps i Other

-- what is in slot i moves to slot j
abbrev pub moved_slot : ℕ → ℕ → List Slot → Slot → List Slot
moved_slot i j slots None = slots
moved_slot i j slots (Some node) = slice_set (slice_set slots i None) j (Some node)

abbrev pub slots_after : List Slot → Step → List Slot
slots_after slots (Set i s) = slice_set slots i s
slots_after slots (Move i j) = moved_slot i j slots (slot_at slots i)
slots_after slots Other = slots

-- the step's slots are there
abbrev pub FitsIn : ℕ → Step → Type 0
FitsIn n (Set i s) = i < n
FitsIn n (Move i j) = (i < n) × (j < n)
FitsIn n Other = Unit {0}

-- ---- what the slots mean

-- strictly ascending
abbrev pub AreAboveBy : {K : Type 0} → (K → K → Ordering) → K → List K → Type 0
AreAboveBy R x [] = Unit {0}
AreAboveBy R x (y ∷ ys) = (R x y ≡ Less) × AreAboveBy R x ys

abbrev pub AreAscendingBy : {K : Type 0} → (K → K → Ordering) → List K → Type 0
AreAscendingBy R [] = Unit {0}
AreAscendingBy R (x ∷ xs) = AreAboveBy R x xs × AreAscendingBy R xs

abbrev pub AreAscending : List Entry → Type 0
AreAscending = AreAscendingBy entry_cmp

abbrev pub entry_at : List Entry → ℕ → Entry
entry_at entries i = slice_index_or entries i root_home

-- what the slots have at an entry
abbrev pub slot_of : List Entry → List Slot → Entry → Option Node
slot_of [] slots e = None
slot_of (f ∷ fs) [] e = None
slot_of (f ∷ fs) (s ∷ ss) e = cond (entry_eq f e) s (slot_of fs ss e)

-- the slots have what each entry holds, and every other entry holds nothing
abbrev pub Mirror : List Entry → List Slot → Table → Type 0
Mirror entries slots t = (e : Entry) → get t e ≡ slot_of entries slots e

-- the entries that hold something, in order
abbrev pub held_in_slots : List Entry → List Slot → List (Entry × Node)
held_in_slots [] slots = []
held_in_slots (e ∷ es) [] = []
held_in_slots (e ∷ es) (s ∷ ss) =
    option_map_or (λ node. (e, node) ∷ held_in_slots es ss) s (held_in_slots es ss)

-- the table of what the slots have
unfoldable pub table_of_slots : List Entry → List Slot → Table
table_of_slots entries slots = from_sorted (held_in_slots entries slots)

-- ---- steps

abbrev pub IsPlace : List Entry → ℕ → Entry → Type 0
IsPlace entries i e = (i < length entries) × (entry_at entries i ≡ e)

-- the step does to the slots what the micro-operation does to the entries
abbrev pub IsStep : List Entry → MicroOp → Step → Type 0
IsStep entries (CreateDirEntry e node rights bytes) (Set i s) =
    IsPlace entries i (entry_of e) × (s ≡ Some node)
IsStep entries (DeleteDirEntry e node) (Set i s) = IsPlace entries i (entry_of e) × (s ≡ None)
IsStep entries (MoveDirEntry a b node old) (Move i j) =
    IsPlace entries i (entry_of a) × IsPlace entries j (entry_of b)
IsStep entries (LinkDirEntry e kind file old half) (Set i s) =
    IsPlace entries i (entry_of e) × (s ≡ Some (File kind file))
IsStep entries (ChangeFileSize file to) Other = Unit {0}
IsStep entries (WriteBlock file block start at bytes) Other = Unit {0}
IsStep entries (SetAttr target rights) Other = Unit {0}
IsStep entries Say Other = Unit {0}
IsStep entries _ _ = ⊥

abbrev pub AreSteps : List Entry → List MicroOp → List Step → Type 0
AreSteps entries [] [] = Unit {0}
AreSteps entries (o ∷ ops) (s ∷ steps) = IsStep entries o s × AreSteps entries ops steps
AreSteps entries _ _ = ⊥

-- ---- what they refer to

-- the number of the directory, or of the file, is below how many there are
abbrev pub IsKnown : ℕ → ℕ → Slot → Type 0
IsKnown directories files None = Unit {0}
IsKnown directories files (Some (Directory d)) = d < directories
IsKnown directories files (Some (File kind file)) = file < files

abbrev pub AreKnown : ℕ → ℕ → List Slot → Type 0
AreKnown directories files slots = (i : ℕ) → IsKnown directories files (slot_at slots i)

abbrev pub IsKnownStep : ℕ → ℕ → ℕ → Step → Type 0
IsKnownStep n directories files (Set i s) = (i < n) × IsKnown directories files s
IsKnownStep n directories files (Move i j) = (i < n) × (j < n)
IsKnownStep n directories files Other = Unit {0}

abbrev pub AreKnownSteps : ℕ → ℕ → ℕ → List Step → Type 0
AreKnownSteps n directories files steps =
    (k : ℕ) → IsKnownStep n directories files (step_at steps k)
