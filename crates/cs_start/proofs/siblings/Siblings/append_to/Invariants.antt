use Rattle.std.proofs.Common.{◌≡◌, length}
use Rattle.std.specs.FinMap.{entries}
use Rattle.cs_tree_model.specs.Maps.Texts.{by_bytes}
use Rattle.cs_start.specs.Entries.{with_nodes, with_records}
use Rattle.cs_start.specs.Owned.{with_places}
use Rattle.cs_start.specs.Siblings.{HaveLegalNames, in_directory}
use Rattle.cs_start.proofs.siblings.Siblings.append_to.Given as goal

abbrev pub invariant-loop-name : goal.invariant-loop-name
invariant-loop-name l = record {
  records : with_records l.lists.records (in_directory l.directory-inside.path (by_bytes l.name-iterator))
      ≡ with_records l.fn.lists.records (entries l.fn.self.entries);
  nodes : with_nodes l.lists.nodes.items (in_directory l.directory-inside.path (by_bytes l.name-iterator))
      ≡ with_nodes l.fn.lists.nodes.items (entries l.fn.self.entries);
  places : with_places l.lists.places.items (length l.lists.records)
      (in_directory l.directory-inside.path (by_bytes l.name-iterator))
      ≡ with_places l.fn.lists.places.items (length l.fn.lists.records) (entries l.fn.self.entries);
  legal : HaveLegalNames (by_bytes l.name-iterator);
}
