use Rattle.cs_run.proofs.Most.{longest}
use Rattle.cs_run.proofs.laws.walks_are_longest.Goals as goal

pub returns : goal.returns
returns c = longest
