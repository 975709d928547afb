-- A trace that is broken up, as before version 4.
use Rattle.std.specs.Prelude.{ℕ, ◌+◌, ◌<◌, ◌==◌, List, [], ◌∷◌, filter, length, map, slice_index_or}
use Rattle.std.specs.List.{range_with_len}
use Rattle.cs_tree_model.specs.Tree.{Path}
use Rattle.cs_trace.specs.Earlier.Traces.{Trace}
use Rattle.cs_trace_lines.specs.Earlier.Version.{block_size_of}
use Rattle.cs_trace_lines.specs.Versions.{block_bytes}
use Rattle.cs_trace_lines.specs.Earlier.Version.{Version}
use Rattle.cs_micro.specs.Earlier.MicroOp.{MicroOp}
use Rattle.cs_micro.specs.Earlier.SyncPoint.{SyncPoint}
use Rattle.cs_micro.specs.Earlier.MicroOperations.{micro_operations_of}
use Rattle.cs_micro.specs.Earlier.SyncPoints.{sync_points_of}

-- the micro-operations, the sync points, the paths of each of the start's files in the order of
-- their numbers, and the version: with it the size of blocks, and what the file system keeps in
-- order
pub record Micros : Type 0 where
  pub ops : List MicroOp
  pub syncs : List SyncPoint
  pub starts : List (List Path)
  pub version : Version

-- the bytes of a block in a trace of the version
abbrev pub block_of_version : Version → ℕ
block_of_version version = block_bytes (block_size_of version)

-- the paths that link the file of the number, in the order of their lines
abbrev pub linked_to : ℕ → List (Path × ℕ) → List Path
linked_to file links = map (λ l. l.0) (filter (λ l. l.1 == file) links)

-- the paths of the start's file of the number: its own, and then those that link it
abbrev pub paths_of_file : List Path → List (Path × ℕ) → ℕ → List Path
paths_of_file files links file = slice_index_or files file [] ∷ linked_to file links

-- those of each of them
unfoldable pub paths_of_files : List Path → List (Path × ℕ) → List (List Path)
paths_of_files files links = map (paths_of_file files links) (range_with_len 0 (length files))

-- what a trace breaks into
abbrev pub micros_in : Trace → Micros
micros_in t = record {
  ops = micro_operations_of (block_of_version t.version) t.operations;
  syncs = sync_points_of (block_of_version t.version) t.operations;
  starts = paths_of_files t.files t.links;
  version = t.version;
}

-- it has something to keep
abbrev pub HoldsAny : Micros → Type 0
HoldsAny m = 0 < length m.ops + length m.syncs + length m.starts
