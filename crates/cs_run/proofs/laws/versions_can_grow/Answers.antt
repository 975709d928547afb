use Rattle.cs_run.proofs.Versions.{versions_can_grow}
use Rattle.cs_run.proofs.laws.versions_can_grow.Goals as goal

pub returns : goal.returns
returns c = versions_can_grow
