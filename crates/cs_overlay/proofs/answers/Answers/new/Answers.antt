use Rattle.cs_overlay.proofs.ByText.{numbers_none}
use Rattle.cs_overlay.proofs.answers.Answers.new.Goals as goal

pub returns : goal.returns
returns c = numbers_none c.new.result c.new.ensures.len
