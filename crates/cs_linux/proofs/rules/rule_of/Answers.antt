use Rattle.std.proofs.Common.{ap, sym, ◌∙◌, nat_eq, Some}
use Rattle.std.specs.Cmp.Lexicographic.{pointwise}
use Rattle.std.proofs.lemmas.Bool.{false≢true}
use Rattle.cs_names.specs.Rules.{text_of}
use Rattle.cs_linux.specs.Numbers.{rule_numbered}
use Rattle.cs_linux.proofs.Texts.{has_rule, same_text, the_rule}
use Rattle.cs_linux.proofs.rules.rule_of.Goals as goal

pub returns-in_err-rule-clause-each : goal.returns-in_err-rule-clause-each
returns-in_err-rule-clause-each c = λ rule e.
    absurd (has_rule c.args.text.now rule (sym c.in_err-rule.was ∙ c.rule_numbered.ensures ∙ ap rule_numbered c.as_bytes.ensures.value) e)

pub returns-then-eq-clause-each : goal.returns-then-eq-clause-each
returns-then-eq-clause-each c = λ rule e.
    let found = sym c.in_ok-rule.was ∙ c.rule_numbered.ensures ∙ ap rule_numbered c.as_bytes.ensures.value in
    ap Some (the_rule c.args.text.now rule c.in_ok-rule.rule found e)

pub returns-else-eq-clause-each : goal.returns-else-eq-clause-each
returns-else-eq-clause-each c = λ rule e.
    let found = sym c.in_ok-rule.was ∙ c.rule_numbered.ensures ∙ ap rule_numbered c.as_bytes.ensures.value in
    let own = c.text.ensures.value ∙ ap text_of (the_rule c.args.text.now rule c.in_ok-rule.rule found e) ∙ sym e in
    absurd (false≢true (c.if-eq.ensures ∙ ap (λ text. pointwise nat_eq text c.args.text.now) own ∙ same_text c.args.text.now))
