use Rattle.std.proofs.Common.{◌≡◌, ◌≤◌, length, take}
use Rattle.std.specs.List.{flat_map, zip}
use Rattle.cs_trace.specs.Traces.{held_by_path}
use Rattle.cs_apm.specs.Held.{nodes_by_path}
use Rattle.cs_apm.proofs.homes.start_pairs.Given as goal

abbrev pub invariant-loop-place : goal.invariant-loop-place
invariant-loop-place l = record {
  pairs : l.pairs.items ≡ flat_map (held_by_path (nodes_by_path l.paths.items l.nodes)) (take l.place (zip l.paths.items l.nodes));
  few : length l.pairs.items ≤ l.place;
}
