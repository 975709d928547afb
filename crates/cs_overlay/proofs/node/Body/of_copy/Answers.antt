use Rattle.std.proofs.Common.{ap, ◌∙◌}
use Rattle.std.specs.FinMap.{get, get-empty}
use Rattle.cs_tree_model.specs.Tree.{name_cmp}
use Rattle.cs_overlay.proofs.node.Body.of_copy.Goals as goal

pub returns-in-Directory-clause-own : goal.returns-in-Directory-clause-own
returns-in-Directory-clause-own c = λ x. ap (λ m. get m x) c.new.ensures ∙ get-empty name_cmp x
