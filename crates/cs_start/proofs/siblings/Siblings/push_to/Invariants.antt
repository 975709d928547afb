use Rattle.std.proofs.Common.{◌≡◌, ◌++◌}
use Rattle.std.specs.FinMap.{entries}
use Rattle.cs_tree_model.specs.Maps.Texts.{by_bytes}
use Rattle.cs_start.specs.Siblings.{HaveLegalNames, in_directory}
use Rattle.cs_start.proofs.siblings.Siblings.push_to.Given as goal

abbrev pub invariant-loop-name : goal.invariant-loop-name
invariant-loop-name l = record {
  all : l.list.items ++ in_directory l.directory-inside.path (by_bytes l.name-iterator)
      ≡ l.fn.list.items ++ entries l.fn.self.entries;
  legal : HaveLegalNames (by_bytes l.name-iterator);
}
