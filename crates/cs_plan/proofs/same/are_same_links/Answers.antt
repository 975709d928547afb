use Rattle.std.proofs.lemmas.Slice.Eq.{slice_eq-Decides}
use Rattle.cs_plan.proofs.Deciding.{link_decides}
use Rattle.cs_plan.proofs.same.are_same_links.Goals as goal

pub returns : goal.returns
returns c = slice_eq-Decides link_decides _ _ _ c.eq.ensures
