use Rattle.cs_entries.specs.Laws.Trees.{tree_after}
use Rattle.cs_entries.proofs.laws.legal_operations_leave_trees.Goals as goal

pub returns : goal.returns
returns c m o tree legal = tree_after m o tree legal
