-- A trace that is broken up.
use Rattle.std.specs.Prelude.{◌≡◌, ℕ, ◌+◌, ◌<◌, ◌==◌, List, [], ◌∷◌, filter, length, map}
use Rattle.std.specs.Prelude.{slice_index_or}
use Rattle.std.specs.List.{range_with_len}
use Rattle.cs_tree_model.specs.Tree.{Path}
use Rattle.cs_entries.specs.declared.entry.Entry.{Entry}
use Rattle.cs_trace.specs.Traces.{AreHomes, Trace, directory_count, start_table}
use Rattle.cs_trace_lines.specs.declared.version.Version.{Version}
use Rattle.cs_micro.specs.declared.micro_op.MicroOp.{MicroOp}
use Rattle.cs_micro.specs.declared.sync_point.SyncPoint.{SyncPoint}
use Rattle.cs_micro.specs.Legal.{AreLegal}
use Rattle.cs_micro.specs.MicroOperations.{micro_operations_of}
use Rattle.cs_micro.specs.SyncPoints.{sync_points_of}

-- the micro-operations, the sync points, the paths of each of the start's files and symbolic links
-- in the order of their numbers, and the version: with it the size of blocks, and what the file
-- system keeps in order
pub record Micros : Type 0 where
  pub ops : List MicroOp
  pub syncs : List SyncPoint
  pub starts : List (List Path)
  pub version : Version

-- the paths that link the file of the number, in the order of their lines
abbrev pub linked_to : ℕ → List (Path × ℕ) → List Path
linked_to file links = map (λ l. l.0) (filter (λ l. l.1 == file) links)

-- the paths of the start's file of the number: its own, and then those that link it
abbrev pub paths_of_file : List Path → List (Path × ℕ) → ℕ → List Path
paths_of_file files links file = slice_index_or files file [] ∷ linked_to file links

-- the paths of each of the start's files
unfoldable pub paths_of_files : List Path → List (Path × ℕ) → List (List Path)
paths_of_files files links = map (paths_of_file files links) (range_with_len 0 (length files))

-- what a trace breaks into
abbrev pub micros_in : Trace → Micros
micros_in t = record {
  ops = micro_operations_of t.version t.operations;
  syncs = sync_points_of t.version t.operations;
  starts = paths_of_files t.files t.links;
  version = t.version;
}

-- there is at least one micro-operation, sync point or file at the start
abbrev pub HoldsAny : Micros → Type 0
HoldsAny m = 0 < length m.ops + length m.syncs + length m.starts

-- its micro-operations are legal from the trace's start on
pub record AreLegalFromStart (t : Trace) (m : Micros) : Type 0 where
  pub homes : List Entry
  pub are : AreHomes (start_table t) homes
  pub many : length homes ≡ directory_count t.nodes
  pub legal : AreLegal t.version (record {
    entries = start_table t;
    files = length t.files;
    homes = homes;
  }) m.ops
