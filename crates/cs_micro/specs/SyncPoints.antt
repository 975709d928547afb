-- The sync points of a trace.
use Rattle.std.specs.Prelude.{ℕ, List, [], ◌∷◌, length, take, slice_index_or}
use Rattle.std.specs.List.{flat_map, range_with_len}
use Rattle.cs_trace_lines.specs.declared.version.Version.{Version}
use Rattle.cs_trace.specs.declared.operation.Operation.{Operation}
use Rattle.cs_trace.specs.declared.operation.Operation.TheVariants.{Sync, Say}
use Rattle.cs_micro.specs.declared.sync_point.SyncPoint.{SyncPoint}
use Rattle.cs_micro.specs.MicroOperations.{micro_operations_of}

-- a sync after so many micro-operations is a sync point there
abbrev pub points_after : ℕ → Operation → List SyncPoint
points_after count (Sync covers) = record { at = count; covers = covers } ∷ []
points_after count _ = []

-- the operation at a place, after the micro-operations of those before it
abbrev pub points_at : Version → List Operation → ℕ → List SyncPoint
points_at version operations place =
    points_after (length (micro_operations_of version (take place operations)))
    (slice_index_or operations place Say)

-- the sync points of all operations
unfoldable pub sync_points_of : Version → List Operation → List SyncPoint
sync_points_of version operations =
    flat_map (points_at version operations) (range_with_len 0 (length operations))
