use Rattle.cs_world.proofs.Judging.{judged}
use Rattle.cs_world.proofs.laws.calls_are_judged.Goals as goal

pub returns : goal.returns
returns c = judged
