use Rattle.cs_world.proofs.Coming.{comes}
use Rattle.cs_world.proofs.laws.steps_are_judged.Goals as goal

pub returns : goal.returns
returns c = comes
