use Rattle.std.proofs.Common.{◌≡◌, ℕ, map, take}
use Rattle.cs_tree_model.specs.Tree.{Path}
use Rattle.cs_paths.proofs.climbing.places_of.Given as goal

abbrev pub invariant-loop-path : goal.invariant-loop-path
invariant-loop-path l = l.places.items ≡ map (λ (path : Path × ℕ). path.1) (take l.path-index l.paths)
