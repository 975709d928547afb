-- What a line needs of the state before it, as before version 4.
use Rattle.std.specs.Prelude.{◌≡◌, ◌≤◌, ℕ, ◌+◌, ◌==◌, ◌||◌, ◌&&◌, Bool, true, false, List, length}
use Rattle.std.specs.Prelude.{nat_le, nat_lt, Option, Some, None, slice_index_or, if◌then◌else◌}
use Rattle.std.specs.Prelude.{Result, Ok, Err}
use Rattle.std.specs.FinMap.{get}
use Rattle.std.specs.Option.{option_and_then, option_map, option_map_or}
use Rattle.cs_names.specs.declared.limits.TheConstants.{FILE_BYTES, SAY_BYTES, TRACE_PATH_NAMES}
use Rattle.cs_names.specs.declared.limits.TheConstants.{TREE_RECORDS}
use Rattle.cs_tree_model.specs.Tree.{Path, parent_path}
use Rattle.cs_trace.specs.Earlier.Attributes.{Attributes, rights_at, target_of}
use Rattle.cs_trace.specs.Earlier.Below.{has_below}
use Rattle.cs_trace_lines.specs.Earlier.Lines as line
use Rattle.cs_trace_lines.specs.Earlier.Lines.{Change, Claims, Mode, Owner, OperationLine}
use Rattle.cs_trace.specs.Earlier.Names.{are_user_names, entry_path_of, is_user_name, new_path_of}
use Rattle.cs_trace.specs.Earlier.Names.{path_of, rights_of, set_path_of}
use Rattle.cs_trace.specs.Earlier.Operations.{Paths}
use Rattle.cs_trace.specs.declared.fault.TraceFaultKind.{TraceFaultKind}
use Rattle.cs_trace.specs.declared.fault.TraceFaultKind.TheVariants.{Syntax, UnknownOp, BadName}
use Rattle.cs_trace.specs.declared.fault.TraceFaultKind.TheVariants.{NoParent, NotDir, Exists}
use Rattle.cs_trace.specs.declared.fault.TraceFaultKind.TheVariants.{Missing, NotFile, NotEmpty}
use Rattle.cs_trace.specs.declared.fault.TraceFaultKind.TheVariants.{TooLarge, Memory}
use Rattle.cs_trace.specs.Earlier.Covers as covers
use Rattle.cs_trace.specs.Earlier.Node.{Node}
use Rattle.cs_trace.specs.Earlier.Node.{Directory, File}
use Rattle.cs_trace.specs.Earlier.Operation.{Operation}
use Rattle.cs_trace.specs.Earlier.Operation.{Creat, Mkdir, Link, Unlink}
use Rattle.cs_trace.specs.Earlier.Operation.{Rmdir, Rename, Write, Truncate}
use Rattle.cs_trace.specs.Earlier.Operation.{SetAttr, Sync, Say}
use Rattle.cs_start.specs.declared.rights.Rights.{Rights}
use Rattle.cs_trace.specs.Earlier.Target.{Target}

abbrev pub and_then : {A B E : Type 0} → Result A E → (A → Result B E) → Result B E
and_then (Ok x) f = f x
and_then (Err e) f = Err e

-- ---- what is at a path, as a line needs it

-- the number of the file here
abbrev pub file_by : Option Node → Result ℕ TraceFaultKind
file_by None = Err Missing
file_by (Some Directory) = Err NotFile
file_by (Some (File file)) = Ok file

-- a new entry may be here, below what is above
abbrev pub free_by : Option Node → Option Node → Result (Unit {0}) TraceFaultKind
free_by None here = Err NoParent
free_by (Some (File file)) here = Err NotDir
free_by (Some Directory) (Some node) = Err Exists
free_by (Some Directory) None = Ok tt

-- a file may be moved here, over a file, below what is above
abbrev pub target_by : Option Node → Option Node → Result (Unit {0}) TraceFaultKind
target_by None here = Err NoParent
target_by (Some (File file)) here = Err NotDir
target_by (Some Directory) (Some Directory) = Err NotFile
target_by (Some Directory) (Some (File file)) = Ok tt
target_by (Some Directory) None = Ok tt

-- an empty directory is here; the flag says whether something is below it
abbrev pub emptied_by : Option Node → Bool → Result (Unit {0}) TraceFaultKind
emptied_by None below = Err Missing
emptied_by (Some (File file)) below = Err NotDir
emptied_by (Some Directory) true = Err NotEmpty
emptied_by (Some Directory) false = Ok tt

-- what an fsync of the file or directory here covers
abbrev pub covered_by : Option Node → Path → Result Operation TraceFaultKind
covered_by None p = Err Missing
covered_by (Some Directory) p = Ok (Sync (covers.Directory p))
covered_by (Some (File file)) p = Ok (Sync (covers.File file))

abbrev pub file_at : Paths → Path → Result ℕ TraceFaultKind
file_at m p = file_by (get m p)

abbrev pub free_at : Paths → Path → Result (Unit {0}) TraceFaultKind
free_at m p = free_by (get m (parent_path p)) (get m p)

abbrev pub target_at : Paths → Path → Result (Unit {0}) TraceFaultKind
target_at m p = target_by (get m (parent_path p)) (get m p)

abbrev pub emptied_at : Paths → Path → Result (Unit {0}) TraceFaultKind
emptied_at m p = emptied_by (get m p) (has_below m p)

-- the file or directory at a path, with its rights
abbrev pub held_by : Attributes → Path → Node → Option (Target × Rights)
held_by a p node = option_map (λ rights. (target_of node p, rights)) (rights_at a node p)

abbrev pub node_and_rights_at : Paths → Attributes → Path → Option (Target × Rights)
node_and_rights_at m a p = option_and_then (held_by a p) (get m p)

-- the value; Missing if there is none
abbrev pub or_missing : {A : Type 0} → Option A → Result A TraceFaultKind
or_missing here = option_map_or Ok here (Err Missing)

-- ---- limits

abbrev pub has_too_many_names : Path → Bool
has_too_many_names p = nat_lt TRACE_PATH_NAMES (length p)

-- one record more at the path goes past a limit, after so many
abbrev pub is_too_much : ℕ → Path → Bool
is_too_much made p = has_too_many_names p || nat_le TREE_RECORDS made

-- a write of at least one byte ends above the greatest size
abbrev pub ends_above : ℕ → List ℕ → Bool
ends_above offset bytes = nat_lt 0 (length bytes) && nat_lt FILE_BYTES (offset + length bytes)

abbrev pub size_in : List ℕ → ℕ → ℕ
size_in sizes file = slice_index_or sizes file 0

-- the value, unless a limit is passed
abbrev pub unless_too_large : {A : Type 0} → Bool → A → Result A TraceFaultKind
unless_too_large large x = if large then Err TooLarge else Ok x

-- ---- operations, if their names are legal

abbrev pub creat : Paths → ℕ → ℕ → Path → Claims → Result Operation TraceFaultKind
creat m made file p claims =
    and_then (free_at m p) (λ _.
    unless_too_large (is_too_much made p) (Creat p file (rights_of claims)))

abbrev pub mkdir : Paths → ℕ → Path → Claims → Result Operation TraceFaultKind
mkdir m made p claims =
    and_then (free_at m p) (λ _.
    unless_too_large (is_too_much made p) (Mkdir p (rights_of claims)))

-- one path more, q, for the file at p
abbrev pub link : Paths → ℕ → Path → Path → Result Operation TraceFaultKind
link m made p q =
    and_then (file_at m p) (λ file.
    and_then (free_at m q) (λ _.
    unless_too_large (is_too_much made q) (Link q file)))

abbrev pub unlink : Paths → Path → Result Operation TraceFaultKind
unlink m p = and_then (file_at m p) (λ _. Ok (Unlink p))

abbrev pub rmdir : Paths → Path → Result Operation TraceFaultKind
rmdir m p = and_then (emptied_at m p) (λ _. Ok (Rmdir p))

-- the file of this number is here
abbrev pub is_path_of : ℕ → Option Node → Bool
is_path_of file None = false
is_path_of file (Some Directory) = false
is_path_of file (Some (File other)) = other == file

-- the path that a rename of the file at p to q moves: if q is a path of the same file, it does
-- nothing, as a rename of q to itself
abbrev pub rename_source : Paths → ℕ → Path → Path → Path
rename_source m file p q = if is_path_of file (get m q) then q else p

abbrev pub rename : Paths → Path → Path → Result Operation TraceFaultKind
rename m p q =
    and_then (file_at m p) (λ file.
    and_then (target_at m q) (λ _.
    unless_too_large (has_too_many_names q) (Rename (rename_source m file p q) q)))

abbrev pub write : Paths → List ℕ → Path → ℕ → List ℕ → Result Operation TraceFaultKind
write m sizes p offset bytes =
    and_then (file_at m p) (λ file.
    unless_too_large (ends_above offset bytes) (Write file (size_in sizes file) offset bytes))

abbrev pub truncate : Paths → List ℕ → Path → ℕ → Result Operation TraceFaultKind
truncate m sizes p size =
    and_then (file_at m p) (λ file.
    unless_too_large (nat_lt FILE_BYTES size) (Truncate file (size_in sizes file) size))

-- a chmod leaves owner and group as they are, and a chown the permissions
abbrev pub rights_after : Change → Rights → Rights
rights_after (Mode permissions) rights = record rights { permissions = permissions }
rights_after (Owner owner group) rights = record rights { owner = owner; group = group }

abbrev pub set_attr : Paths → Attributes → Path → Change → Result Operation TraceFaultKind
set_attr m a p change =
    and_then (or_missing (node_and_rights_at m a p))
    (λ h. Ok (SetAttr h.0 h.1 (rights_after change h.1)))

abbrev pub fsync : Paths → Path → Result Operation TraceFaultKind
fsync m p = covered_by (get m p) p

abbrev pub fsync_range : Paths → Path → ℕ → ℕ → Result Operation TraceFaultKind
fsync_range m p offset count =
    and_then (file_at m p) (λ file. Ok (Sync (covers.Range file offset count)))

abbrev pub say : List ℕ → Result Operation TraceFaultKind
say text = unless_too_large (nat_lt SAY_BYTES (length text)) Say

-- ---- with the names checked first

-- a path that a text spells; one that spells none is BadName
abbrev pub or_bad_name : Option Path → Result Path TraceFaultKind
or_bad_name path = option_map_or Ok path (Err BadName)

abbrev pub with_path : {A : Type 0}
    → Option Path → (Path → Result A TraceFaultKind) → Result A TraceFaultKind
with_path path f = and_then (or_bad_name path) f

-- the name of a user or a group that a text is; one that isn't legal is BadName
abbrev pub user_name_or : List ℕ → Result (List ℕ) TraceFaultKind
user_name_or text = if is_user_name text then Ok text else Err BadName

-- the rights that a line claims; an owner or a group that isn't legal is BadName
abbrev pub rights_in : Claims → Result Rights TraceFaultKind
rights_in claims = if are_user_names claims then Ok (rights_of claims) else Err BadName

-- the operation of a line, if these are the paths and the sizes of the files, so many records were
-- made, and files and directories have these attributes; or its first fault
abbrev pub resolve :
    Paths → List ℕ → ℕ → Attributes → OperationLine → Result Operation TraceFaultKind
resolve m sizes made a (line.Creat text claims) =
    with_path (new_path_of text claims) (λ p. creat m made (length sizes) p claims)
resolve m sizes made a (line.Mkdir text claims) =
    with_path (new_path_of text claims) (λ p. mkdir m made p claims)
resolve m sizes made a (line.Link from to) =
    with_path (entry_path_of from) (λ p. with_path (entry_path_of to) (λ q. link m made p q))
resolve m sizes made a (line.Unlink text) = with_path (entry_path_of text) (unlink m)
resolve m sizes made a (line.Rmdir text) = with_path (entry_path_of text) (rmdir m)
resolve m sizes made a (line.Rename from to) =
    with_path (entry_path_of from) (λ p. with_path (entry_path_of to) (λ q. rename m p q))
resolve m sizes made a (line.Write text offset bytes) =
    with_path (entry_path_of text) (λ p. write m sizes p offset bytes)
resolve m sizes made a (line.Truncate text size) =
    with_path (entry_path_of text) (λ p. truncate m sizes p size)
resolve m sizes made a (line.SetAttr text change) =
    with_path (set_path_of text change) (λ p. set_attr m a p change)
resolve m sizes made a (line.Fsync text) = with_path (path_of text) (fsync m)
resolve m sizes made a (line.FsyncRange text offset count) =
    with_path (entry_path_of text) (λ p. fsync_range m p offset count)
resolve m sizes made a line.Sync = Ok (Sync covers.All)
resolve m sizes made a (line.Say text) = say text

-- ---- when a call may be out of memory

-- there is no fault, or one that needs the tree: it comes after the names are copied, which takes
-- memory
abbrev pub IsPastNames : {A : Type 0} → Result A TraceFaultKind → Type 0
IsPastNames (Ok x) = Unit {0}
IsPastNames (Err Syntax) = ⊥
IsPastNames (Err UnknownOp) = ⊥
IsPastNames (Err BadName) = ⊥
IsPastNames (Err Memory) = ⊥
IsPastNames (Err kind) = Unit {0}

-- ---- what a reader keeps of the tree

-- no path in the tree has too many names
abbrev pub AreShort : Paths → Type 0
AreShort m = (p : Path) (node : Node) → get m p ≡ Some node → length p ≤ TRACE_PATH_NAMES
