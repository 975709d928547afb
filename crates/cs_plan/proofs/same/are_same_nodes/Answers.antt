use Rattle.std.proofs.lemmas.Slice.Eq.{slice_eq-Decides}
use Rattle.cs_plan.proofs.Deciding.{node_decides}
use Rattle.cs_plan.proofs.same.are_same_nodes.Goals as goal

pub returns : goal.returns
returns c = slice_eq-Decides node_decides _ _ _ c.eq.ensures
