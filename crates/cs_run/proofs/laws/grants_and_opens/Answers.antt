use Rattle.cs_run.proofs.OpenLaws.{one_more, as_left}
use Rattle.cs_run.proofs.laws.grants_and_opens.Goals as goal

pub returns-clause-one : goal.returns-clause-one
returns-clause-one c = one_more

pub returns-clause-kept : goal.returns-clause-kept
returns-clause-kept c = as_left
