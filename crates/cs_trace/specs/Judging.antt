-- What a line needs of the state before it, and its first fault.
use Rattle.std.specs.Prelude.{◌≡◌, ◌≤◌, ℕ, ◌+◌, ◌-◌, ◌==◌, ◌||◌, ◌&&◌, not, Bool, true, false, List}
use Rattle.std.specs.Prelude.{length, nat_le, nat_lt, Option, Some, None, slice_index_or}
use Rattle.std.specs.Prelude.{if◌then◌else◌, Result, Ok, Err}
use Rattle.std.specs.Option.{option_and_then, option_map, option_map_or}
use Rattle.cs_entries.specs.declared.entry.DirEntry.{DirEntry}
use Rattle.cs_entries.specs.declared.node.FileKind.{FileKind}
use Rattle.cs_entries.specs.declared.node.FileKind.TheVariants.{Regular, Symlink}
use Rattle.cs_entries.specs.declared.node.Node.{Node}
use Rattle.cs_entries.specs.declared.node.Node.TheVariants.{Directory, File}
use Rattle.cs_entries.specs.DirEntries.{entry_of}
use Rattle.cs_entries.specs.Paths.{at_path}
use Rattle.cs_entries.specs.Tables.{Table, has_entries, held_in}
use Rattle.cs_names.specs.Paths.{path_eq}
use Rattle.cs_names.specs.declared.limits.TheConstants.{SAY_BYTES, TRACE_PATH_NAMES, TREE_RECORDS}
use Rattle.cs_tree_model.specs.Tree.{Path, parent_path}
use Rattle.cs_trace.specs.Attributes.{Attributes, rights_at, target_of}
use Rattle.cs_start.specs.Below.{is_below}
use Rattle.cs_trace_lines.specs.Lines as line
use Rattle.cs_trace_lines.specs.Lines.{Change, Mode, Owner, OperationLine}
use Rattle.cs_trace_lines.specs.Values.{Claims}
use Rattle.cs_trace_lines.specs.Versions.{is_fourth}
use Rattle.cs_trace_lines.specs.declared.version.Version.{Version}
use Rattle.cs_trace.specs.Limits.{most_bytes}
use Rattle.cs_start.specs.Names.{entry_path_of}
use Rattle.cs_trace.specs.Names.{are_user_names, is_user_name, new_path_of}
use Rattle.cs_start.specs.Names.{path_of}
use Rattle.cs_trace.specs.Names.{rights_of, set_path_of}
use Rattle.cs_trace.specs.Operations.{number_for}
use Rattle.cs_trace.specs.State.{State}
use Rattle.cs_trace.specs.declared.fault.TraceFaultKind.{TraceFaultKind}
use Rattle.cs_trace.specs.declared.fault.TraceFaultKind.TheVariants.{Syntax, UnknownOp, BadName}
use Rattle.cs_trace.specs.declared.fault.TraceFaultKind.TheVariants.{NoParent, NotDir, Exists}
use Rattle.cs_trace.specs.declared.fault.TraceFaultKind.TheVariants.{Missing, NotFile, NotEmpty}
use Rattle.cs_trace.specs.declared.fault.TraceFaultKind.TheVariants.{TooLarge, Memory}
use Rattle.cs_trace.specs.declared.operation.Covers.TheVariants as covers
use Rattle.cs_trace.specs.declared.operation.Operation.{Operation}
use Rattle.cs_trace.specs.declared.operation.Operation.TheVariants as operation
use Rattle.cs_start.specs.declared.rights.Rights.{Rights}
use Rattle.cs_trace.specs.declared.operation.Target.{Target}

abbrev pub and_then : {A B E : Type 0} → Result A E → (A → Result B E) → Result B E
and_then (Ok x) f = f x
and_then (Err e) f = Err e

-- ---- what is at a path, as a line needs it

-- what the names of the path lead to now
abbrev pub node_at : State → Path → Option Node
node_at s p = at_path (held_in s.system.entries) p

-- the number of the regular file here
abbrev pub file_by : Option Node → Result ℕ TraceFaultKind
file_by None = Err Missing
file_by (Some (Directory d)) = Err NotFile
file_by (Some (File Symlink file)) = Err NotFile
file_by (Some (File Regular file)) = Ok file

-- the file or symbolic link here
abbrev pub leaf_by : Option Node → Result (FileKind × ℕ) TraceFaultKind
leaf_by None = Err Missing
leaf_by (Some (Directory d)) = Err NotFile
leaf_by (Some (File kind file)) = Ok (kind, file)

-- the number of the directory above; nothing is ever looked up through a symbolic link
abbrev pub parent_by : Option Node → Result ℕ TraceFaultKind
parent_by None = Err NoParent
parent_by (Some (File kind file)) = Err NotDir
parent_by (Some (Directory d)) = Ok d

-- nothing is here
abbrev pub vacant_by : Option Node → Result (Unit {0}) TraceFaultKind
vacant_by (Some node) = Err Exists
vacant_by None = Ok tt

-- what a file may be moved onto: nothing, a file or a symbolic link
abbrev pub under_file : Option Node → Result (Option Node) TraceFaultKind
under_file (Some (Directory d)) = Err NotFile
under_file here = Ok here

-- the number of the empty directory here
abbrev pub emptied_by : Table → Option Node → Result ℕ TraceFaultKind
emptied_by t None = Err Missing
emptied_by t (Some (File kind file)) = Err NotDir
emptied_by t (Some (Directory d)) = if has_entries t d then Err NotEmpty else Ok d

-- what a directory may be moved onto: nothing, or an empty directory
abbrev pub under_directory : Table → Option Node → Result (Option Node) TraceFaultKind
under_directory t None = Ok None
under_directory t (Some (File kind file)) = Err NotDir
under_directory t (Some (Directory d)) =
    if has_entries t d then Err NotEmpty else Ok (Some (Directory d))

-- what an fsync of the file or directory here covers
abbrev pub covered_by : Option Node → Path → Result Operation TraceFaultKind
covered_by None p = Err Missing
covered_by (Some (Directory d)) p = Ok (operation.Sync (covers.Directory d p))
covered_by (Some (File Symlink file)) p = Err NotFile
covered_by (Some (File Regular file)) p = Ok (operation.Sync (covers.File file))

abbrev pub file_at : State → Path → Result ℕ TraceFaultKind
file_at s p = file_by (node_at s p)

-- the entry of a path whose directory is there
abbrev pub entry_below : ℕ → Path → DirEntry
entry_below directory p = record { directory = directory; path = p }

abbrev pub parent_at : State → Path → Result DirEntry TraceFaultKind
parent_at s p =
    and_then (parent_by (node_at s (parent_path p))) (λ directory. Ok (entry_below directory p))

-- the entry of a path, whatever is above it; for paths at which something is
abbrev pub directory_number : Option Node → ℕ
directory_number (Some (Directory d)) = d
directory_number _ = 0

abbrev pub entry_at : State → Path → DirEntry
entry_at s p = entry_below (directory_number (node_at s (parent_path p))) p

-- a new entry may be at the path
abbrev pub free_at : State → Path → Result DirEntry TraceFaultKind
free_at s p = and_then (parent_at s p) (λ e. and_then (vacant_by (node_at s p)) (λ _. Ok e))

-- the file or directory at a path, with its rights
abbrev pub held_by : Attributes → Path → Node → Option (Target × Rights)
held_by a p node = option_map (λ rights. (target_of node p, rights)) (rights_at a node)

-- the value; Missing if there is none
abbrev pub or_missing : {A : Type 0} → Option A → Result A TraceFaultKind
or_missing here = option_map_or Ok here (Err Missing)

-- ---- limits

abbrev pub has_too_many_names : Path → Bool
has_too_many_names p = nat_lt TRACE_PATH_NAMES (length p)

-- one record more at the path goes past a limit, after so many
abbrev pub is_too_much : ℕ → Path → Bool
is_too_much made p = has_too_many_names p || nat_le TREE_RECORDS made

-- a write of at least one byte ends above the greatest size
abbrev pub ends_above : Version → ℕ → List ℕ → Bool
ends_above version offset bytes =
    nat_lt 0 (length bytes) && nat_lt (most_bytes version) (offset + length bytes)

abbrev pub size_in : List ℕ → ℕ → ℕ
size_in sizes file = slice_index_or sizes file 0

-- the value, unless a limit is passed
abbrev pub unless_too_large : {A : Type 0} → Bool → A → Result A TraceFaultKind
unless_too_large large x = if large then Err TooLarge else Ok x

-- ---- operations, if their names are legal

abbrev pub creat : State → Path → Claims → Result Operation TraceFaultKind
creat s p claims =
    and_then (free_at s p) (λ e.
    unless_too_large (is_too_much s.made p)
    (operation.Creat e (length s.system.sizes) (rights_of claims)))

abbrev pub mkdir : State → Path → Claims → Result Operation TraceFaultKind
mkdir s p claims =
    and_then (free_at s p) (λ e.
    unless_too_large (is_too_much s.made p)
    (operation.Mkdir e (number_for s.version s.system.homes (entry_of e)) (rights_of claims)))

abbrev pub symlink : State → Path → Claims → List ℕ → Result Operation TraceFaultKind
symlink s p claims target =
    and_then (free_at s p) (λ e.
    unless_too_large (is_too_much s.made p)
    (operation.Symlink e (length s.system.sizes) (rights_of claims) target))

-- one path more, q, for the file at p
abbrev pub link : State → Path → Path → Result Operation TraceFaultKind
link s p q =
    and_then (file_at s p) (λ file.
    and_then (free_at s q) (λ e.
    unless_too_large (has_too_many_names p || is_too_much s.made q) (operation.Link e file)))

abbrev pub unlink : State → Path → Result Operation TraceFaultKind
unlink s p =
    and_then (leaf_by (node_at s p)) (λ leaf.
    unless_too_large (has_too_many_names p) (operation.Unlink (entry_at s p) leaf.0 leaf.1))

abbrev pub rmdir : State → Path → Result Operation TraceFaultKind
rmdir s p =
    and_then (emptied_by s.system.entries (node_at s p)) (λ d.
    unless_too_large (has_too_many_names p) (operation.Rmdir (entry_at s p) d))

-- the file of the number is here
abbrev pub is_path_of : ℕ → Option Node → Bool
is_path_of file None = false
is_path_of file (Some (Directory d)) = false
is_path_of file (Some (File kind other)) = other == file

-- a rename that does nothing: of an entry to itself
abbrev pub unmoved : DirEntry → Node → Operation
unmoved e node = operation.Rename e e node (Some node)

-- a rename into another directory counts as a record in the fourth version
abbrev pub is_too_much_to_move : State → DirEntry → DirEntry → Bool
is_too_much_to_move s a b =
    is_fourth s.version && not (a.directory == b.directory) && nat_le TREE_RECORDS s.made

abbrev pub moved : State → Path → DirEntry → Node → Option Node → Result Operation TraceFaultKind
moved s p b node old =
    unless_too_large
    (has_too_many_names p || has_too_many_names b.path || is_too_much_to_move s (entry_at s p) b)
    (operation.Rename (entry_at s p) b node old)

-- if q is a path of the same file, nothing is moved
abbrev pub rename_file : State → Path → Path → FileKind → ℕ → Result Operation TraceFaultKind
rename_file s p q kind file =
    and_then (parent_at s q) (λ b.
    and_then (under_file (node_at s q)) (λ old.
    if is_path_of file old then
    unless_too_large (has_too_many_names p || has_too_many_names q) (unmoved b (File kind file))
    else moved s p b (File kind file) old))

-- a directory isn't moved below itself, and to itself it isn't moved
abbrev pub rename_directory : State → Path → Path → ℕ → Result Operation TraceFaultKind
rename_directory s p q d =
    and_then (parent_at s q) (λ b.
    if is_below p q then Err BadName
    else (if path_eq p q then unless_too_large (has_too_many_names q) (unmoved b (Directory d))
    else and_then (under_directory s.system.entries (node_at s q)) (moved s p b (Directory d))))

abbrev pub rename_by : State → Path → Path → Option Node → Result Operation TraceFaultKind
rename_by s p q None = Err Missing
rename_by s p q (Some (File kind file)) = rename_file s p q kind file
rename_by s p q (Some (Directory d)) =
    if is_fourth s.version then rename_directory s p q d else Err NotFile

abbrev pub rename : State → Path → Path → Result Operation TraceFaultKind
rename s p q = rename_by s p q (node_at s p)

abbrev pub write : State → Path → ℕ → List ℕ → Result Operation TraceFaultKind
write s p offset bytes =
    and_then (file_at s p) (λ file.
    unless_too_large (has_too_many_names p || ends_above s.version offset bytes)
    (operation.Write file (size_in s.system.sizes file) offset bytes))

abbrev pub truncate : State → Path → ℕ → Result Operation TraceFaultKind
truncate s p size =
    and_then (file_at s p) (λ file.
    unless_too_large (has_too_many_names p || nat_lt (most_bytes s.version) size)
    (operation.Truncate file (size_in s.system.sizes file) size))

-- a chmod leaves owner and group as they are, and a chown the permissions
abbrev pub rights_after : Change → Rights → Rights
rights_after (Mode permissions) rights = record rights { permissions = permissions }
rights_after (Owner owner group) rights = record rights { owner = owner; group = group }

-- a symbolic link has no mode that could be set
abbrev pub may_set : Change → Node → Bool
may_set (Mode permissions) (File Symlink file) = false
may_set change node = true

abbrev pub set_attr_of : State → Path → Change → Node → Result Operation TraceFaultKind
set_attr_of s p change node =
    if may_set change node then
    and_then (or_missing (held_by s.attributes p node)) (λ h.
    unless_too_large (has_too_many_names p)
    (operation.SetAttr h.0 h.1 (rights_after change h.1)))
    else Err NotFile

abbrev pub set_attr : State → Path → Change → Result Operation TraceFaultKind
set_attr s p change = and_then (or_missing (node_at s p)) (set_attr_of s p change)

abbrev pub fsync : State → Path → Result Operation TraceFaultKind
fsync s p =
    and_then (covered_by (node_at s p) p) (unless_too_large (has_too_many_names p))

abbrev pub fdatasync : State → Path → Result Operation TraceFaultKind
fdatasync s p =
    and_then (file_at s p) (λ file.
    unless_too_large (has_too_many_names p) (operation.Sync (covers.Data file)))

abbrev pub fsync_range : State → Path → ℕ → ℕ → Result Operation TraceFaultKind
fsync_range s p offset count =
    and_then (file_at s p) (λ file.
    unless_too_large (has_too_many_names p) (operation.Sync (covers.Range file offset count)))

abbrev pub say : List ℕ → Result Operation TraceFaultKind
say text = unless_too_large (nat_lt SAY_BYTES (length text)) operation.Say

-- ---- with the names checked first

-- a path that a text spells; one that spells none is BadName
abbrev pub or_bad_name : Option Path → Result Path TraceFaultKind
or_bad_name path = option_map_or Ok path (Err BadName)

abbrev pub with_path : {A : Type 0}
    → Option Path → (Path → Result A TraceFaultKind) → Result A TraceFaultKind
with_path path f = and_then (or_bad_name path) f

-- the name of a user or a group that a text is; one that isn't legal is BadName
abbrev pub user_name_or : List ℕ → Result (List ℕ) TraceFaultKind
user_name_or text = if is_user_name text then Ok text else Err BadName

-- the rights that a line claims; an owner or a group that isn't legal is BadName
abbrev pub rights_in : Claims → Result Rights TraceFaultKind
rights_in claims = if are_user_names claims then Ok (rights_of claims) else Err BadName

-- the operation of a line in this state, or its first fault
abbrev pub resolve : State → OperationLine → Result Operation TraceFaultKind
resolve s (line.Creat text claims) =
    with_path (new_path_of text claims) (λ p. creat s p claims)
resolve s (line.Mkdir text claims) =
    with_path (new_path_of text claims) (λ p. mkdir s p claims)
resolve s (line.Symlink text claims target) =
    with_path (new_path_of text claims) (λ p. symlink s p claims target)
resolve s (line.Link from to) =
    with_path (entry_path_of from) (λ p. with_path (entry_path_of to) (λ q. link s p q))
resolve s (line.Unlink text) = with_path (entry_path_of text) (unlink s)
resolve s (line.Rmdir text) = with_path (entry_path_of text) (rmdir s)
resolve s (line.Rename from to) =
    with_path (entry_path_of from) (λ p. with_path (entry_path_of to) (λ q. rename s p q))
resolve s (line.Write text offset bytes) =
    with_path (entry_path_of text) (λ p. write s p offset bytes)
resolve s (line.Truncate text size) =
    with_path (entry_path_of text) (λ p. truncate s p size)
resolve s (line.SetAttr text change) =
    with_path (set_path_of text change) (λ p. set_attr s p change)
resolve s (line.Fsync text) = with_path (path_of text) (fsync s)
resolve s (line.Fdatasync text) = with_path (entry_path_of text) (fdatasync s)
resolve s (line.FsyncRange text offset count) =
    with_path (entry_path_of text) (λ p. fsync_range s p offset count)
resolve s line.Sync = Ok (operation.Sync covers.All)
resolve s (line.Say text) = say text

-- ---- when a call may be out of memory

-- there is no fault, or one that is found in the tree, after the names were copied: copying takes
-- memory
abbrev pub IsPastNames : {A : Type 0} → Result A TraceFaultKind → Type 0
IsPastNames (Ok x) = Unit {0}
IsPastNames (Err Syntax) = ⊥
IsPastNames (Err UnknownOp) = ⊥
IsPastNames (Err BadName) = ⊥
IsPastNames (Err Memory) = ⊥
IsPastNames (Err kind) = Unit {0}
