use Rattle.std.proofs.Common.{◌≡◌, map, take}
use Rattle.cs_micro.specs.Micros.{paths_of_files}
use Rattle.cs_micro.proofs.starts.paths_of_files.Given as goal

abbrev pub invariant-loop-path : goal.invariant-loop-path
invariant-loop-path l = map (λ paths. paths.items) l.starts.items ≡ paths_of_files l.trace.files (take l.path-index l.path-items)
