-- What is at each path, as a map that is made; for private clauses.
use Rattle.std.specs.Prelude.{List}
use Rattle.std.specs.BTreeMap.{BTreeMap}
use Rattle.std.specs.FinMap.{FinMap, from_entries}
use Rattle.cs_entries.specs.declared.node.Node.{Node}
use Rattle.cs_tree_model.specs.Tree.{Path, path_cmp}

abbrev pub pairs_in : List (Path × Node) → FinMap path_cmp Node
pairs_in pairs = from_entries pairs

abbrev pub nodes_of : BTreeMap Path Node → FinMap path_cmp Node
nodes_of m = from_entries m.entries
