use Rattle.cs_world.proofs.AmpleSteps.{same_ample}
use Rattle.cs_world.proofs.NoWant.{no_want}
use Rattle.cs_world.proofs.laws.only_out_of_memory_differs.Goals as goal

pub returns : goal.returns
returns c = record { differs = same_ample; suffices = no_want }
