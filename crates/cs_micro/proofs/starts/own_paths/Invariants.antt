use Rattle.std.proofs.Common.{◌≡◌, ◌∷◌, [], map, take}
use Rattle.cs_micro.proofs.starts.own_paths.Given as goal

abbrev pub invariant-loop-file : goal.invariant-loop-file
invariant-loop-file l = map (λ paths. paths.items) l.starts.items ≡ map (λ path. path ∷ []) (take l.file l.trace.files)
