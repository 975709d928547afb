use Rattle.cs_permit.proofs.Firsts.{first_failing_append, AllPass-append}
use Rattle.cs_permit.proofs.laws.first_rule_of_two_lists.Goals as goal

pub returns-clause-first : goal.returns-clause-first
returns-clause-first c = first_failing_append

pub returns-clause-passed : goal.returns-clause-passed
returns-clause-passed c = AllPass-append
