-- An operation of a trace: when it is legal, and what it leaves.
use Rattle.std.specs.Prelude.{◌≡◌, ◌<◌, ◌≤◌, ℕ, zero, suc, ◌+◌, ◌==◌, not, Bool, true, List, []}
use Rattle.std.specs.Prelude.{◌∷◌, ◌++◌, Option, None, Some, length, max, slice_get, slice_set, fold}
use Rattle.std.specs.Prelude.{if◌then◌else◌}
use Rattle.std.specs.FinMap.{get}
use Rattle.cs_entries.specs.declared.node.FileKind.{FileKind}
use Rattle.cs_entries.specs.declared.node.FileKind.TheVariants as kinds
use Rattle.cs_entries.specs.declared.node.Node.{Node}
use Rattle.cs_entries.specs.declared.node.Node.TheVariants.{Directory, File}
use Rattle.cs_entries.specs.DirEntries.{IsNamed, entry_of}
use Rattle.cs_entries.specs.declared.entry.Entry.{Entry}
use Rattle.cs_entries.specs.Entries.{Entries, EntryOp, entry_eq}
use Rattle.cs_entries.specs.Entries as entry
use Rattle.cs_entries.specs.Legal.{IsLegal as IsLegalEntryOp}
use Rattle.cs_entries.specs.Paths.{at_path}
use Rattle.cs_entries.specs.Tables.{Table, held_in, table_after}
use Rattle.cs_trace_lines.specs.Values.{is_target}
use Rattle.cs_trace_lines.specs.Versions.{is_fourth}
use Rattle.cs_trace_lines.specs.declared.version.Version.{Version}
use Rattle.cs_trace.specs.Limits.{most_bytes}
use Rattle.cs_trace.specs.declared.operation.Covers.TheVariants as covers
use Rattle.cs_trace.specs.declared.operation.Operation.{Operation}
use Rattle.cs_start.specs.declared.rights.Rights.{Rights}
use Rattle.cs_trace.specs.declared.operation.Operation.TheVariants.{Creat, Mkdir, Symlink, Link}
use Rattle.cs_trace.specs.declared.operation.Operation.TheVariants.{Unlink, Rmdir, Rename, Write}
use Rattle.cs_trace.specs.declared.operation.Operation.TheVariants.{Truncate, SetAttr, Sync, Say}
use Rattle.cs_trace.specs.declared.operation.Target.TheVariants as targets

-- a file system as the operations so far leave it: what each entry holds; each file's size by its
-- number; and the entry at which each directory was made, by its number, the root's first
pub record FileSystem : Type 0 where
  pub entries : Table
  pub sizes : List ℕ
  pub homes : List Entry

-- ---- what an operation leaves

-- what it does to entries; a rename of an entry to itself does nothing
abbrev pub entry_op : Operation → EntryOp
entry_op (Creat e file rights) = entry.Create (entry_of e) (File kinds.Regular file)
entry_op (Mkdir e directory rights) = entry.Create (entry_of e) (Directory directory)
entry_op (Symlink e file rights target) = entry.Create (entry_of e) (File kinds.Symlink file)
entry_op (Link e file) = entry.Link (entry_of e) kinds.Regular file
entry_op (Unlink e kind file) = entry.Delete (entry_of e) (File kind file)
entry_op (Rmdir e directory) = entry.Delete (entry_of e) (Directory directory)
entry_op (Rename a b node old) =
    if entry_eq (entry_of a) (entry_of b) then entry.Other
    else entry.Move (entry_of a) (entry_of b) node old
entry_op _ = entry.Other

-- the size of a file that had so many bytes, after a write
abbrev pub written_size : ℕ → ℕ → List ℕ → ℕ
written_size size offset bytes =
    if length bytes == 0 then size else max size (offset + length bytes)

-- the sizes after an operation: a new file has no byte, and a symbolic link those of its target
abbrev pub sizes_after : List ℕ → Operation → List ℕ
sizes_after sizes (Creat e file rights) = sizes ++ 0 ∷ []
sizes_after sizes (Symlink e file rights target) = sizes ++ length target ∷ []
sizes_after sizes (Write file size offset bytes) =
    slice_set sizes file (written_size size offset bytes)
sizes_after sizes (Truncate file size to) = slice_set sizes file to
sizes_after sizes _ = sizes

-- a directory with a number that none had gets the entry of its mkdir as its home
abbrev pub homes_after : List Entry → Operation → List Entry
homes_after homes (Mkdir e directory rights) =
    if directory == length homes then homes ++ entry_of e ∷ [] else homes
homes_after homes _ = homes

abbrev pub system_after : FileSystem → Operation → FileSystem
system_after fs o = record {
  entries = table_after fs.entries (entry_op o);
  sizes = sizes_after fs.sizes o;
  homes = homes_after fs.homes o;
}

-- how many records an operation makes; in the fourth version a rename into another directory counts
-- as one, since it may reach the disk as a link and an unlink
abbrev pub made_by : Version → Operation → ℕ
made_by version (Creat e file rights) = 1
made_by version (Mkdir e directory rights) = 1
made_by version (Symlink e file rights target) = 1
made_by version (Link e file) = 1
made_by version (Rename a b node old) =
    if is_fourth version then (if a.directory == b.directory then 0 else 1) else 0
made_by version _ = 0

-- ---- the numbers of directories

-- the place of the entry in a list; past the end if it isn't there
abbrev pub place_of : Entry → List Entry → ℕ
place_of e [] = 0
place_of e (f ∷ fs) = if entry_eq e f then 0 else suc (place_of e fs)

-- the number of a directory that is made at the entry: in the fourth version the next one; before
-- it, that of the directory that was made there before, if there was one
abbrev pub number_for : Version → List Entry → Entry → ℕ
number_for version homes e = if is_fourth version then length homes else place_of e homes

-- ---- when an operation is legal

-- the file of the kind and the number has an entry
abbrev pub Stands : Entries → FileKind → ℕ → Type 0
Stands m kind file = (e : Entry) × (m e ≡ Some (File kind file))

-- the file of the number, of whichever kind, has an entry
abbrev pub StandsSomewhere : Entries → ℕ → Type 0
StandsSomewhere m file = (kind : FileKind) × Stands m kind file

-- the directory is the root, or has an entry
abbrev pub IsThere : Entries → ℕ → List (List ℕ) → Type 0
IsThere m directory path = at_path m path ≡ Some (Directory directory)

-- the file of the number has this size
abbrev pub HasSize : List ℕ → ℕ → ℕ → Type 0
HasSize sizes file size = slice_get sizes file ≡ Some size

-- three octal digits
abbrev pub IsOctal : Rights → Type 0
IsOctal rights = rights.permissions ≤ 511

-- what may be moved onto what: a file replaces a file, and from the fourth version on a directory
-- is moved too, and replaces a directory; that this one is empty is legal of entries
abbrev pub MayReplace : Version → Node → Option Node → Type 0
MayReplace version (File kind file) (Some (Directory d)) = ⊥
MayReplace version (File kind file) _ = Unit {0}
MayReplace version (Directory d) (Some (File kind file)) = ⊥
MayReplace version (Directory d) _ = is_fourth version ≡ true

-- a file has a number that was given
abbrev pub IsGiven : FileSystem → Node → Type 0
IsGiven fs (Directory d) = Unit {0}
IsGiven fs (File kind file) = file < length fs.sizes

-- the paths of the entries and directories that an operation names lead there
abbrev pub AreNamed : Entries → Operation → Type 0
AreNamed m (Creat e file rights) = IsNamed m e
AreNamed m (Mkdir e directory rights) = IsNamed m e
AreNamed m (Symlink e file rights target) = IsNamed m e
AreNamed m (Link e file) = IsNamed m e
AreNamed m (Unlink e kind file) = IsNamed m e
AreNamed m (Rmdir e directory) = IsNamed m e
AreNamed m (Rename a b node old) = IsNamed m a × IsNamed m b
AreNamed m (SetAttr (targets.Directory directory path) before after) = IsThere m directory path
AreNamed m (Sync (covers.Directory directory path)) = IsThere m directory path
AreNamed m _ = Unit {0}

-- what must hold in addition to the rules of entries: a new file has the next number, a directory
-- the one that the version gives it; what is changed, synced or linked is there; permissions are
-- three octal digits; and no operation leaves a file that is too large
abbrev pub IsFitting : Version → FileSystem → Operation → Type 0
IsFitting version fs (Creat e file rights) = (file ≡ length fs.sizes) × IsOctal rights
IsFitting version fs (Mkdir e directory rights) =
    (directory ≡ number_for version fs.homes (entry_of e)) × IsOctal rights
IsFitting version fs (Symlink e file rights target) =
    (is_fourth version ≡ true) × (file ≡ length fs.sizes) × IsOctal rights
    × (is_target target ≡ true)
IsFitting version fs (Link e file) =
    (get fs.entries (entry_of e) ≡ None) × Stands (held_in fs.entries) kinds.Regular file
    × (file < length fs.sizes)
IsFitting version fs (Unlink e kind file) = Unit {0}
IsFitting version fs (Rmdir e directory) = Unit {0}
IsFitting version fs (Rename a b node old) = MayReplace version node old × IsGiven fs node
IsFitting version fs (Write file size offset bytes) =
    Stands (held_in fs.entries) kinds.Regular file × HasSize fs.sizes file size
    × (0 < length bytes → offset + length bytes ≤ most_bytes version)
IsFitting version fs (Truncate file size to) =
    Stands (held_in fs.entries) kinds.Regular file × HasSize fs.sizes file size
    × (to ≤ most_bytes version)
IsFitting version fs (SetAttr (targets.File file) before after) =
    StandsSomewhere (held_in fs.entries) file × (file < length fs.sizes) × IsOctal after
IsFitting version fs (SetAttr (targets.Directory directory path) before after) = IsOctal after
IsFitting version fs (Sync covers.All) = Unit {0}
IsFitting version fs (Sync (covers.File file)) =
    Stands (held_in fs.entries) kinds.Regular file × (file < length fs.sizes)
IsFitting version fs (Sync (covers.Data file)) =
    Stands (held_in fs.entries) kinds.Regular file × (file < length fs.sizes)
IsFitting version fs (Sync (covers.Range file offset count)) =
    Stands (held_in fs.entries) kinds.Regular file × (file < length fs.sizes)
IsFitting version fs (Sync (covers.Directory directory path)) = directory < length fs.homes
IsFitting version fs Say = Unit {0}

pub record IsLegal (version : Version) (fs : FileSystem) (o : Operation) : Type 0 where
  pub named : AreNamed (held_in fs.entries) o
  pub entry : IsLegalEntryOp (held_in fs.entries) (entry_op o)
  pub fitting : IsFitting version fs o

-- each operation is legal in what those before it leave
abbrev pub AreLegal : Version → FileSystem → List Operation → Type 0
AreLegal version fs [] = Unit {0}
AreLegal version fs (o ∷ ops) = IsLegal version fs o × AreLegal version (system_after fs o) ops

-- what all of them leave
abbrev pub system_after_all : FileSystem → List Operation → FileSystem
system_after_all = fold system_after
