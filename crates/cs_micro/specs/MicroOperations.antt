-- The micro-operations that an operation of a trace is.
use Rattle.std.specs.Prelude.{ℕ, ◌+◌, ◌<◌, ◌≤◌, ◌==◌, ◌&&◌, not, nat_lt, Bool, true, false, List, []}
use Rattle.std.specs.Prelude.{◌∷◌, ◌++◌, Option, None, length, map, if◌then◌else◌}
use Rattle.std.specs.List.{flat_map}
use Rattle.cs_entries.specs.declared.entry.DirEntry.{DirEntry}
use Rattle.cs_entries.specs.declared.node.FileKind.{FileKind}
use Rattle.cs_entries.specs.declared.node.FileKind.TheVariants.{Regular, Symlink}
use Rattle.cs_entries.specs.declared.node.Node.{Node}
use Rattle.cs_entries.specs.declared.node.Node.TheVariants.{Directory, File}
use Rattle.cs_entries.specs.DirEntries.{entry_of}
use Rattle.cs_entries.specs.Entries.{entry_eq}
use Rattle.cs_names.specs.Texts.{same_bytes}
use Rattle.cs_trace.specs.Limits.{most_bytes}
use Rattle.cs_trace_lines.specs.Versions.{block_bytes, block_size_of, is_fourth, profile_of}
use Rattle.cs_trace_lines.specs.declared.profile.Profile.{Profile}
use Rattle.cs_trace_lines.specs.declared.profile.Profile.TheVariants.{Blocks, Ordered, Journal}
use Rattle.cs_trace_lines.specs.declared.version.Version.{Version}
use Rattle.cs_trace.specs.declared.operation.Operation.{Operation}
use Rattle.cs_trace.specs.declared.operation.Operation.TheVariants.{Creat, Mkdir, Symlink as MakeLink}
use Rattle.cs_trace.specs.declared.operation.Operation.TheVariants.{Unlink, Rmdir, Rename, Link}
use Rattle.cs_trace.specs.declared.operation.Operation.TheVariants.{Write, Truncate, SetAttr, Sync}
use Rattle.cs_trace.specs.declared.operation.Operation.TheVariants.{Say}
use Rattle.cs_start.specs.declared.rights.Rights.{Rights}
use Rattle.cs_trace.specs.declared.operation.Target.{Target}
use Rattle.cs_micro.specs.declared.micro_op.MicroOp.{MicroOp}
use Rattle.cs_micro.specs.declared.micro_op.MicroOp.TheVariants as micro
use Rattle.cs_micro.specs.Blocks.{block_writes}
use Rattle.cs_micro.specs.Pages.{sizes_on_way, zeros_behind}

-- the bytes of a block in a trace of the version
abbrev pub block_of_version : Version → ℕ
block_of_version version = block_bytes (block_size_of version)

-- ---- files

-- the sizes that a write gives a file, if its bytes end past its size; from the fourth version on
-- the file grows in two steps past the end of its last page
abbrev pub growth_sizes : Version → ℕ → ℕ → List ℕ
growth_sizes version size end =
    if nat_lt size end then (if is_fourth version then sizes_on_way size end else end ∷ []) else []

abbrev pub growth_micros : Version → ℕ → ℕ → ℕ → List MicroOp
growth_micros version file size end =
    map (micro.ChangeFileSize file) (growth_sizes version size end)

-- the writes of the blocks that bytes fall into, if there is a byte
abbrev pub bytes_micros : Version → ℕ → ℕ → List ℕ → List MicroOp
bytes_micros version file offset bytes =
    if length bytes == 0 then [] else block_writes (block_of_version version) file offset bytes

-- a write of no byte is nothing; any other is its changes of size, if it grows, and then its blocks
abbrev pub write_micros : Version → ℕ → ℕ → ℕ → List ℕ → List MicroOp
write_micros version file size offset bytes =
    if length bytes == 0 then [] else growth_micros version file size (offset + length bytes)
    ++ block_writes (block_of_version version) file offset bytes

-- from the fourth version on, a file that is cut inside a page is zeroed up to the page's end first
abbrev pub zero_micros : Version → ℕ → ℕ → ℕ → List MicroOp
zero_micros version file size to =
    if is_fourth version then bytes_micros version file to (zeros_behind size to) else []

-- a change to another size
abbrev pub truncate_micros : Version → ℕ → ℕ → ℕ → List MicroOp
truncate_micros version file size to =
    if size == to then []
    else zero_micros version file size to ++ micro.ChangeFileSize file to ∷ []

-- ---- entries

abbrev pub is_blocks : Profile → Bool
is_blocks Blocks = true
is_blocks Ordered = false
is_blocks Journal = false

-- a rename of a file or a symbolic link that may reach the disk as a link and an unlink: in the
-- fourth version, into another directory, on a file system that keeps no order
abbrev pub comes_in_halves : Version → DirEntry → DirEntry → Bool
comes_in_halves version a b =
    is_fourth version && is_blocks (profile_of version) && not (a.directory == b.directory)

-- the new name, and then the removal of the old one
abbrev pub halves : DirEntry → DirEntry → FileKind → ℕ → Option Node → List MicroOp
halves a b kind file old =
    micro.LinkDirEntry b kind file old true ∷ micro.DeleteDirEntry a (File kind file) ∷ []

-- a move to another entry, as a whole or in halves; a directory always moves as a whole
abbrev pub move_micros : Version → DirEntry → DirEntry → Node → Option Node → List MicroOp
move_micros version a b (Directory d) old = micro.MoveDirEntry a b (Directory d) old ∷ []
move_micros version a b (File kind file) old =
    if comes_in_halves version a b then halves a b kind file old
    else micro.MoveDirEntry a b (File kind file) old ∷ []

abbrev pub rename_micros : Version → DirEntry → DirEntry → Node → Option Node → List MicroOp
rename_micros version a b node old =
    if entry_eq (entry_of a) (entry_of b) then [] else move_micros version a b node old

-- ---- owner, group and permissions

-- the same owner, group and permissions
abbrev pub same_rights : Rights → Rights → Bool
same_rights a b =
    same_bytes a.owner b.owner && same_bytes a.group b.group && a.permissions == b.permissions

-- a change to other rights
abbrev pub set_attr_micros : Target → Rights → Rights → List MicroOp
set_attr_micros target before after =
    if same_rights before after then [] else micro.SetAttr target after ∷ []

-- ---- operations

-- the micro-operations that one operation breaks into
abbrev pub micros_of : Version → Operation → List MicroOp
micros_of version (Creat e file rights) =
    micro.CreateDirEntry e (File Regular file) rights [] ∷ []
micros_of version (Mkdir e directory rights) =
    micro.CreateDirEntry e (Directory directory) rights [] ∷ []
micros_of version (MakeLink e file rights target) =
    micro.CreateDirEntry e (File Symlink file) rights target ∷ []
micros_of version (Unlink e kind file) = micro.DeleteDirEntry e (File kind file) ∷ []
micros_of version (Rmdir e directory) = micro.DeleteDirEntry e (Directory directory) ∷ []
micros_of version (Rename a b node old) = rename_micros version a b node old
micros_of version (Link e file) = micro.LinkDirEntry e Regular file None false ∷ []
micros_of version (Write file size offset bytes) = write_micros version file size offset bytes
micros_of version (Truncate file size to) = truncate_micros version file size to
micros_of version (SetAttr target before after) = set_attr_micros target before after
micros_of version (Sync covers) = []
micros_of version Say = micro.Say ∷ []

-- the micro-operations of all operations, one operation after another
unfoldable pub micro_operations_of : Version → List Operation → List MicroOp
micro_operations_of version operations = flat_map (micros_of version) operations

-- a write of at least one byte, and a truncate, end within the largest file
abbrev pub IsWithinLimit : Version → Operation → Type 0
IsWithinLimit version (Write file size offset bytes) =
    0 < length bytes → offset + length bytes ≤ most_bytes version
IsWithinLimit version (Truncate file size to) = to ≤ most_bytes version
IsWithinLimit version _ = Unit {0}
