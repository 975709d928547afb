-- What a reader keeps of the lines so far; for private clauses.
use Rattle.std.specs.Prelude.{◌≡◌, ◌<◌, ◌≤◌, ◌+◌, ℕ, [], Some, length, Result, Ok}
use Rattle.std.specs.FinMap.{entries, get}
use Rattle.cs_entries.specs.Paths.{at_path}
use Rattle.cs_entries.specs.Tables.{Table, held_in}
use Rattle.cs_entries.specs.declared.node.Node.{Node}
use Rattle.cs_entries.specs.declared.node.Node.TheVariants.{Directory, File}
use Rattle.cs_names.specs.declared.limits.TheConstants.{TREE_RECORDS}
use Rattle.cs_start.specs.Owned.{AreBelow, own_paths}
use Rattle.cs_start.specs.declared.entry.StartEntry.{StartEntry}
use Rattle.cs_start.specs.declared.rights.Rights.{Rights}
use Rattle.cs_tree_model.specs.Tree.{Path, parent_path}
use Rattle.cs_trace.specs.Attributes.{Attributes, with_directory, with_file}
use Rattle.cs_trace.specs.Judging.{and_then, parent_by, vacant_by}
use Rattle.cs_trace.specs.State.{State, empty_state}
use Rattle.cs_trace.specs.declared.attributes.Attributes.{Attributes as KeptAttributes}
use Rattle.cs_trace.specs.declared.fault.TraceFaultKind.{TraceFaultKind}
use Rattle.cs_trace.specs.declared.limits.TheConstants.{LARGE_FILE_BYTES}
use Rattle.cs_trace.specs.declared.operation.Operation.{Operation}
use Rattle.cs_trace.specs.declared.operation.Operation.TheVariants.{Write}
use Rattle.cs_trace.specs.declared.state.LinesSoFar.{LinesSoFar as KeptState}

abbrev pub attributes_of : KeptAttributes → Attributes
attributes_of a = record { files = a.files.items; directories = a.directories.items }

-- one entry more: a file or a symbolic link, or a directory of the number
abbrev pub with_node : Attributes → Node → Rights → Attributes
with_node a (Directory d) rights = with_directory a d rights
with_node a (File kind file) rights = with_file a rights

abbrev pub state_of : KeptState → State
state_of s = record {
  version = s.version;
  start = s.start;
  files = own_paths s.start s.file_count;
  links = s.links.items;
  system = record { entries = s.tree; sizes = s.sizes.items; homes = s.homes };
  made = s.made;
  attributes = attributes_of s.attributes;
  operations = s.operations.items;
}

-- the number of the directory above the path
abbrev pub parent_number : Table → Path → Result ℕ TraceFaultKind
parent_number t p = parent_by (at_path (held_in t) (parent_path p))

-- the same, if nothing is at the path
abbrev pub free_number : Table → Path → Result ℕ TraceFaultKind
free_number t p =
    and_then (parent_number t p) (λ d.
    and_then (vacant_by (at_path (held_in t) p)) (λ _. Ok d))

-- a write of at least one byte ends within the greatest file of any version
abbrev pub IsWithin : Operation → Type 0
IsWithin (Write file size offset bytes) =
    0 < length bytes → offset + length bytes ≤ LARGE_FILE_BYTES
IsWithin _ = Unit {0}

-- a call may be out of memory whatever its result would be
abbrev pub Freely : {A : Type 0} → Result A TraceFaultKind → Type 0
Freely expected = Unit {0}

-- so far there was no operation: what the start has at a path is there now, each file is one of the
-- start's, and the numbers of files in the entries of the start are below the count of files
pub record IsStarting (s : State) : Type 0 where
  pub stands : (p : Path) (e : StartEntry) → get s.start p ≡ Some e
      → at_path (held_in s.system.entries) p ≡ Some e.node
  pub even : length s.system.sizes ≡ length s.files
  pub below : AreBelow (entries s.start) (length s.files)

-- there are not too many records, and each file and each directory is one of them; nothing is there
-- before the header, and the files at the start are all of them before the first operation
pub record IsBounded (s : State) : Type 0 where
  pub fresh : s.made ≡ 0 → s ≡ empty_state
  pub starting : s.operations ≡ [] → IsStarting s
  pub few : s.made ≤ TREE_RECORDS
  pub counted : length s.system.sizes ≤ s.made
  pub housed : length s.system.homes ≤ s.made
