-- The paths of the start's files.
use Rattle.std.proofs.Common.{◌≡◌, ℕ, List, length}
use Rattle.std.proofs.lemmas.List.FromFn.{length-map-range_with_len}
use Rattle.cs_tree_model.specs.Tree.{Path}
use Rattle.cs_micro.specs.Micros.{paths_of_file, paths_of_files}

-- each file has its paths
pub length-paths_of_files : (files : List Path) (links : List (Path × ℕ))
    → length (paths_of_files files links) ≡ length files
unfolding paths_of_files
length-paths_of_files files links =
    length-map-range_with_len (paths_of_file files links) 0 (length files)
