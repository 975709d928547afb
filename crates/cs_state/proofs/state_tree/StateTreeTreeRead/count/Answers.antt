use Rattle.std.proofs.Common.{ap, sym, ◌∙◌, subst}
use Rattle.std.specs.FinMap.{len}
use Rattle.cs_tree_model.specs.Tree.{IsTree, Tree}
use Rattle.cs_state.proofs.Calling.{count_is, is_tree}
use Rattle.cs_state.proofs.state_tree.StateTreeTreeRead.count.Goals as goal

pub returns-clause-value : goal.returns-clause-value
returns-clause-value c = c.count.ensures ∙ sym (count_is c.self.inside.state c.self.invariant)
    ∙ ap (λ (t : Tree). len t.files) c.self.view_is

pub returns-clause-is_tree : goal.returns-clause-is_tree
returns-clause-is_tree c = subst IsTree c.self.view_is (is_tree c.self.inside.state c.self.invariant)
