use Rattle.std.proofs.Common.{◌∙◌, rules, sym}
use denote.Enum.Bare.{same_true, true_same}
use Rattle.cs_names.specs.contracts.rule_id.RuleId.{the_type}
use Rattle.cs_journal.proofs.receipt.is_same_rule.Goals as goal

pub returns : goal.returns
returns c = (λ yes. same_true the_type (search rules) _ _ (sym c.eq.ensures ∙ yes), λ same. c.eq.ensures ∙ true_same the_type _ _ same)
