-- The state after some lines of a trace.
use Rattle.std.specs.Prelude.{ℕ, List, []}
use Rattle.std.specs.FinMap.{empty}
use Rattle.cs_tree_model.specs.Tree.{Path}
use Rattle.cs_trace.specs.Attributes.{Attributes, no_attributes}
use Rattle.cs_start.specs.Entries.{StartEntries}
use Rattle.cs_trace.specs.Operations.{FileSystem}
use Rattle.cs_trace.specs.declared.operation.Operation.{Operation}
use Rattle.cs_trace_lines.specs.declared.version.Version.{Version}
use Rattle.cs_trace_lines.specs.declared.version.Version.TheVariants.{First}

-- the version; the entries at the start by their paths, the path that each of its files was made
-- at, by their numbers, and the further paths of them with the file's number; the file system as it
-- is now; how many records were ever made; owner, group and permissions of files and directories,
-- if the version needs them; and the operations
pub record State : Type 0 where
  pub version : Version
  pub start : StartEntries
  pub files : List Path
  pub links : List (Path × ℕ)
  pub system : FileSystem
  pub made : ℕ
  pub attributes : Attributes
  pub operations : List Operation

abbrev pub empty_system : FileSystem
empty_system = record { entries = empty; sizes = []; homes = [] }

abbrev pub empty_state : State
empty_state = record {
  version = First;
  start = empty;
  files = [];
  links = [];
  system = empty_system;
  made = 0;
  attributes = no_attributes;
  operations = [];
}
