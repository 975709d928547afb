use Rattle.cs_world.proofs.Isolating.{none_reaches}
use Rattle.cs_world.proofs.laws.no_run_reaches_another.Goals as goal

pub returns : goal.returns
returns c = none_reaches
