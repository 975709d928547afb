-- Two maps of paths as one.
use Rattle.std.specs.Prelude.{◌++◌}
use Rattle.std.specs.FinMap.{FinMap, entries, from_entries}
use Rattle.cs_tree_model.specs.Tree.{path_cmp}

-- the entries of both; a path of both has that of the first
unfoldable pub union : {X : Type 0} → FinMap path_cmp X → FinMap path_cmp X → FinMap path_cmp X
union m n = from_entries (entries m ++ entries n)
