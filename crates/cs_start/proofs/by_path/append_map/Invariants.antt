use Rattle.std.proofs.Common.{◌≡◌, length}
use Rattle.std.specs.FinMap.{entries, from_entries}
use Rattle.cs_tree_model.specs.Tree.{path_cmp}
use Rattle.cs_start.specs.Entries.{with_nodes, with_records}
use Rattle.cs_start.specs.Owned.{with_places}
use Rattle.cs_start.proofs.by_path.append_map.Given as goal

abbrev pub invariant-loop-path : goal.invariant-loop-path
invariant-loop-path l = record {
  records : with_records l.lists.records l.path-iterator
      ≡ with_records l.fn.lists.records (entries (from_entries {R = path_cmp} l.fn.by_path.entries));
  nodes : with_nodes l.lists.nodes.items l.path-iterator
      ≡ with_nodes l.fn.lists.nodes.items (entries (from_entries {R = path_cmp} l.fn.by_path.entries));
  places : with_places l.lists.places.items (length l.lists.records) l.path-iterator
      ≡ with_places l.fn.lists.places.items (length l.fn.lists.records)
      (entries (from_entries {R = path_cmp} l.fn.by_path.entries));
}
