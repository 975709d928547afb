use Rattle.cs_session.proofs.OwnRules.{first_rule}
use Rattle.cs_session.proofs.laws.own_denials_are_the_first_rule.Goals as goal

pub returns : goal.returns
returns c now session left step refused rule denies = first_rule now session left step refused rule denies
