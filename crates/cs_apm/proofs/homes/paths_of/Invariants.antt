use Rattle.std.proofs.Common.{◌≡◌, map, take}
use Rattle.cs_apm.proofs.homes.paths_of.Given as goal

abbrev pub invariant-loop-place : goal.invariant-loop-place
invariant-loop-place l = l.paths.items ≡ map (λ e. e.0) (take l.place l.records)
