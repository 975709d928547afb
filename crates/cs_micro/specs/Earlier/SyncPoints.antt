-- The sync points of a trace, as before version 4.
use Rattle.std.specs.Prelude.{ℕ, List, [], ◌∷◌, length, take, slice_index_or}
use Rattle.std.specs.List.{flat_map, range_with_len}
use Rattle.cs_trace.specs.Earlier.Operation.{Operation}
use Rattle.cs_trace.specs.Earlier.Operation.{Sync, Say}
use Rattle.cs_micro.specs.Earlier.SyncPoint.{SyncPoint}
use Rattle.cs_micro.specs.Earlier.MicroOperations.{micro_operations_of}

-- a sync after so many micro-operations is a sync point there
abbrev pub points_after : ℕ → Operation → List SyncPoint
points_after count (Sync covers) = record { at = count; covers = covers } ∷ []
points_after count _ = []

-- the operation at a place, after the micro-operations of those before it, for a block size in
-- bytes
abbrev pub points_at : ℕ → List Operation → ℕ → List SyncPoint
points_at block operations place =
    points_after (length (micro_operations_of block (take place operations)))
    (slice_index_or operations place Say)

-- the sync points of all operations
unfoldable pub sync_points_of : ℕ → List Operation → List SyncPoint
sync_points_of block operations =
    flat_map (points_at block operations) (range_with_len 0 (length operations))
