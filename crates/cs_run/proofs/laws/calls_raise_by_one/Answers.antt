use Rattle.cs_run.proofs.Versions.{step_raises}
use Rattle.cs_run.proofs.laws.calls_raise_by_one.Goals as goal

pub returns : goal.returns
returns c = step_raises
