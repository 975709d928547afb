use Rattle.cs_permit.proofs.Firsts.{first_failing-denied, first_failing-granted}
use Rattle.cs_permit.proofs.laws.first_rule_that_fails.Goals as goal

pub returns-clause-denied : goal.returns-clause-denied
returns-clause-denied c = first_failing-denied

pub returns-clause-granted : goal.returns-clause-granted
returns-clause-granted c = first_failing-granted
