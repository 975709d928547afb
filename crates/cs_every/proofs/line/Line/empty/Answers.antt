use Rattle.cs_sets.specs.Laws.Chosen.{none_read}
use Rattle.cs_every.proofs.Kept.{empty_text}
use Rattle.cs_every.proofs.line.Line.empty.Goals as goal

pub invariant_of-result : goal.invariant_of-result
invariant_of-result c = empty_text _ _ _ c.empty.ensures c.new.ensures

pub returns : goal.returns
returns c = none_read c.empty.result c.empty.ensures
