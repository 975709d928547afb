-- The micro-operations of an operation, as before version 4.
use Rattle.std.specs.Prelude.{ℕ, ◌+◌, ◌<◌, ◌≤◌, ◌==◌, ◌&&◌, nat_lt, Bool, List, [], ◌∷◌, ◌++◌}
use Rattle.std.specs.Prelude.{length, if◌then◌else◌}
use Rattle.std.specs.List.{flat_map}
use Rattle.cs_names.specs.Paths.{path_eq}
use Rattle.cs_names.specs.Texts.{same_bytes}
use Rattle.cs_names.specs.declared.limits.TheConstants.{FILE_BYTES}
use Rattle.cs_trace.specs.Earlier.Node as nodes
use Rattle.cs_trace.specs.Earlier.Operation.{Operation}
use Rattle.cs_trace.specs.Earlier.Operation.{Creat, Mkdir, Unlink, Rmdir}
use Rattle.cs_trace.specs.Earlier.Operation.{Rename, Link, Write, Truncate}
use Rattle.cs_trace.specs.Earlier.Operation.{SetAttr, Sync, Say}
use Rattle.cs_start.specs.declared.rights.Rights.{Rights}
use Rattle.cs_trace.specs.Earlier.Target.{Target}
use Rattle.cs_micro.specs.Earlier.EntryKind as kinds
use Rattle.cs_micro.specs.Earlier.MicroOp.{MicroOp}
use Rattle.cs_micro.specs.Earlier.MicroOp as micro
use Rattle.cs_micro.specs.Earlier.Blocks.{block_writes}

-- if bytes end past a file's size, one change of size
abbrev pub growth_micros : ℕ → ℕ → ℕ → List MicroOp
growth_micros file size end = if nat_lt size end then micro.ChangeFileSize file end ∷ [] else []

-- a write of no byte is nothing; any other is a change of size, if it grows, and then its blocks
abbrev pub write_micros : ℕ → ℕ → ℕ → ℕ → List ℕ → List MicroOp
write_micros block file size offset bytes =
    if length bytes == 0 then [] else growth_micros file size (offset + length bytes)
    ++ block_writes block file offset bytes

-- a change to another size
abbrev pub truncate_micros : ℕ → ℕ → ℕ → List MicroOp
truncate_micros file size to = if size == to then [] else micro.ChangeFileSize file to ∷ []

-- a move to another path
abbrev pub rename_micros : List (List ℕ) → List (List ℕ) → List MicroOp
rename_micros p q = if path_eq p q then [] else micro.MoveDirEntry p q ∷ []

-- the same owner, group and permissions
abbrev pub same_rights : Rights → Rights → Bool
same_rights a b =
    same_bytes a.owner b.owner && same_bytes a.group b.group && a.permissions == b.permissions

-- a change to other rights
abbrev pub set_attr_micros : Target → Rights → Rights → List MicroOp
set_attr_micros target before after =
    if same_rights before after then [] else micro.SetAttr target after ∷ []

-- the micro-operations that one operation breaks into
abbrev pub micros_of : ℕ → Operation → List MicroOp
micros_of block (Creat p file rights) = micro.CreateDirEntry p (nodes.File file) rights ∷ []
micros_of block (Mkdir p rights) = micro.CreateDirEntry p nodes.Directory rights ∷ []
micros_of block (Unlink p) = micro.DeleteDirEntry p kinds.File ∷ []
micros_of block (Rmdir p) = micro.DeleteDirEntry p kinds.Directory ∷ []
micros_of block (Rename p q) = rename_micros p q
micros_of block (Link p file) = micro.LinkDirEntry p file ∷ []
micros_of block (Write file size offset bytes) = write_micros block file size offset bytes
micros_of block (Truncate file size to) = truncate_micros file size to
micros_of block (SetAttr target before after) = set_attr_micros target before after
micros_of block (Sync covers) = []
micros_of block Say = micro.Say ∷ []

-- those of all operations, one after another
unfoldable pub micro_operations_of : ℕ → List Operation → List MicroOp
micro_operations_of block operations = flat_map (micros_of block) operations

-- a write of at least one byte ends within the largest file
abbrev pub IsWithinLimit : Operation → Type 0
IsWithinLimit (Write file size offset bytes) = 0 < length bytes → offset + length bytes ≤ FILE_BYTES
IsWithinLimit _ = Unit {0}
