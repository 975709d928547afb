use Rattle.std.proofs.Common.{◌≡◌, ◌++◌, drop}
use Rattle.cs_paths.specs.PathOrders.{paths_of_places, position_by}
use Rattle.cs_paths.proofs.climbing.paths_of_entries.Given as goal

abbrev pub invariant-loop-place : goal.invariant-loop-place
invariant-loop-place l =
    l.paths.items ++ paths_of_places (position_by l.entries l.positions) l.deep (drop l.place l.entries) l.place
    ≡ paths_of_places (position_by l.entries l.positions) l.deep l.entries 0
