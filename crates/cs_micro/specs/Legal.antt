-- When a micro-operation is legal, and what it leaves.
use Rattle.std.specs.Prelude.{◌≡◌, ◌<◌, ◌≤◌, ℕ, ◌+◌, ◌==◌, Bool, true, false, List, [], ◌∷◌, ◌++◌}
use Rattle.std.specs.Prelude.{Option, None, length, if◌then◌else◌}
use Rattle.std.specs.FinMap.{get}
use Rattle.cs_entries.specs.declared.node.FileKind.{FileKind}
use Rattle.cs_entries.specs.declared.node.FileKind.TheVariants.{Regular, Symlink}
use Rattle.cs_entries.specs.declared.node.Node.{Node}
use Rattle.cs_entries.specs.declared.node.Node.TheVariants.{Directory, File}
use Rattle.cs_entries.specs.DirEntries.{IsNamed, entry_of}
use Rattle.cs_entries.specs.declared.entry.Entry.{Entry}
use Rattle.cs_entries.specs.Entries.{Entries, EntryOp}
use Rattle.cs_entries.specs.Entries as entry
use Rattle.cs_entries.specs.Legal.{IsLegal as IsLegalEntryOp}
use Rattle.cs_entries.specs.Tables.{Table, held_in, table_after}
use Rattle.cs_trace_lines.specs.Values.{is_target}
use Rattle.cs_trace_lines.specs.Versions.{is_fourth}
use Rattle.cs_trace_lines.specs.declared.version.Version.{Version}
use Rattle.cs_trace.specs.Limits.{most_bytes}
use Rattle.cs_trace.specs.Operations.{IsOctal, IsThere, MayReplace, Stands, StandsSomewhere}
use Rattle.cs_trace.specs.Operations.{number_for}
use Rattle.cs_trace.specs.declared.operation.Target.TheVariants as targets
use Rattle.cs_micro.specs.Blocks.{start_of}
use Rattle.cs_micro.specs.MicroOperations.{block_of_version}
use Rattle.cs_micro.specs.declared.micro_op.MicroOp.{MicroOp}
use Rattle.cs_micro.specs.declared.micro_op.MicroOp.TheVariants.{CreateDirEntry, DeleteDirEntry}
use Rattle.cs_micro.specs.declared.micro_op.MicroOp.TheVariants.{MoveDirEntry, LinkDirEntry}
use Rattle.cs_micro.specs.declared.micro_op.MicroOp.TheVariants.{ChangeFileSize, WriteBlock}
use Rattle.cs_micro.specs.declared.micro_op.MicroOp.TheVariants.{SetAttr, Say}

-- what each entry holds, how many files have been made, and the entry at which each directory was
-- made, by its number
pub record Made : Type 0 where
  pub entries : Table
  pub files : ℕ
  pub homes : List Entry

-- ---- what a micro-operation leaves

-- what it does to entries
abbrev pub entry_op : MicroOp → EntryOp
entry_op (CreateDirEntry e node rights bytes) = entry.Create (entry_of e) node
entry_op (DeleteDirEntry e node) = entry.Delete (entry_of e) node
entry_op (MoveDirEntry a b node old) = entry.Move (entry_of a) (entry_of b) node old
entry_op (LinkDirEntry e kind file old half) = entry.Link (entry_of e) kind file
entry_op _ = entry.Other

abbrev pub files_after : ℕ → MicroOp → ℕ
files_after files (CreateDirEntry e (File kind file) rights bytes) = files + 1
files_after files _ = files

abbrev pub homes_after : List Entry → MicroOp → List Entry
homes_after homes (CreateDirEntry e (Directory number) rights bytes) =
    if number == length homes then homes ++ entry_of e ∷ [] else homes
homes_after homes _ = homes

abbrev pub made_after : Made → MicroOp → Made
made_after m o = record {
  entries = table_after m.entries (entry_op o);
  files = files_after m.files o;
  homes = homes_after m.homes o;
}

-- ---- when it is legal

-- the paths of the entries and directories that it names lead there
abbrev pub AreNamed : Entries → MicroOp → Type 0
AreNamed m (CreateDirEntry e node rights bytes) = IsNamed m e
AreNamed m (DeleteDirEntry e node) = IsNamed m e
AreNamed m (MoveDirEntry a b node old) = IsNamed m a × IsNamed m b
AreNamed m (LinkDirEntry e kind file old half) = IsNamed m e
AreNamed m (SetAttr (targets.Directory number path) rights) = IsThere m number path
AreNamed m _ = Unit {0}

-- a new file has the next number and no byte, a symbolic link its target, and a directory the
-- number that the version gives it
abbrev pub IsNew : Version → Made → Entry → Node → List ℕ → Type 0
IsNew version m e (File Regular file) bytes = (file ≡ m.files) × (bytes ≡ [])
IsNew version m e (File Symlink file) bytes =
    (is_fourth version ≡ true) × (file ≡ m.files) × (is_target bytes ≡ true)
IsNew version m e (Directory number) bytes =
    (number ≡ number_for version m.homes e) × (bytes ≡ [])

-- a link is of a file that has an entry already. The first half of a rename may be of a symbolic
-- link, and replaces what is there; any other link is of a regular file, where nothing is
abbrev pub IsLink : Made → Entry → FileKind → ℕ → Option Node → Bool → Type 0
IsLink m e kind file old half =
    (file < m.files) × Stands (held_in m.entries) kind file × (get m.entries e ≡ old)
    × (half ≡ false → (old ≡ None) × (kind ≡ Regular))

abbrev pub IsFitting : Version → Made → MicroOp → Type 0
IsFitting version m (CreateDirEntry e node rights bytes) =
    IsNew version m (entry_of e) node bytes × IsOctal rights
IsFitting version m (DeleteDirEntry e node) = Unit {0}
IsFitting version m (MoveDirEntry a b node old) = MayReplace version node old
IsFitting version m (LinkDirEntry e kind file old half) =
    IsLink m (entry_of e) kind file old half
IsFitting version m (ChangeFileSize file to) =
    (file < m.files) × (to ≤ most_bytes version) × Stands (held_in m.entries) Regular file
IsFitting version m (WriteBlock file block start at bytes) =
    (file < m.files) × (0 < length bytes) × (at + length bytes ≤ block_of_version version)
    × (start ≡ start_of (block_of_version version) block)
    × (start + at + length bytes ≤ most_bytes version) × Stands (held_in m.entries) Regular file
IsFitting version m (SetAttr (targets.File file) rights) =
    (file < m.files) × StandsSomewhere (held_in m.entries) file × IsOctal rights
IsFitting version m (SetAttr (targets.Directory number path) rights) = IsOctal rights
IsFitting version m Say = Unit {0}

-- it is legal after what was made so far: by the rules of entries; bytes are in their block, which
-- begins in the file as its number says, and no file is too large; what is changed is there; and
-- permissions are three octal digits
pub record IsLegal (version : Version) (m : Made) (o : MicroOp) : Type 0 where
  pub named : AreNamed (held_in m.entries) o
  pub entry : IsLegalEntryOp (held_in m.entries) (entry_op o)
  pub fitting : IsFitting version m o

-- each is legal in what those before it leave
abbrev pub AreLegal : Version → Made → List MicroOp → Type 0
AreLegal version m [] = Unit {0}
AreLegal version m (o ∷ ops) = IsLegal version m o × AreLegal version (made_after m o) ops
