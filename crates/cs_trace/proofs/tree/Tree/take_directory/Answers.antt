use Rattle.std.proofs.Common.{sym, ap, ◌∙◌}
use Rattle.cs_tree_model.specs.Tree.{parent_path}
use Rattle.cs_start.proofs.Paths.{same_path}
use Rattle.cs_trace.proofs.tree.Tree.take_directory.Goals as goal

pub returns-then-eq-clause-above : goal.returns-then-eq-clause-above
returns-then-eq-clause-above c =
    sym (c.names.ensures ∙ c.path.ensures)
    ∙ same_path c.names.result c.parent.result (sym c.eq.ensures ∙ c.if-eq.true)
    ∙ c.parent.ensures ∙ ap parent_path c.names-2.ensures
