-- A text is that of one rule at the most.
use Rattle.std.proofs.Common.{refl, ap, ◌∙◌, ◌≡◌, ◌≢◌, ℕ, List, [], ◌∷◌, true, nat_eq, Option, None, Some}
use Rattle.std.specs.Cmp.Lexicographic.{pointwise}
use Rattle.std.specs.Option.{unwrap_or}
use Rattle.std.proofs.lemmas.Bool.{eq-eqb}
use Rattle.std.proofs.lemmas.Option.{none-some}
use Rattle.cs_names.specs.Rules.{text_of}
use Rattle.cs_names.specs.declared.rule_id.RuleId.{RuleId}
use Rattle.cs_names.specs.declared.rule_id.RuleId.TheVariants.{S1}
use Rattle.cs_linux.specs.Numbers.{place_in_letter, rule_numbered, rules_of}

-- a text is the same as itself
pub same_text : (x : List ℕ) → pointwise nat_eq x x ≡ true
same_text [] = refl
same_text (b ∷ x) = rw (eq-eqb b b refl, same_text x) refl

-- each rule's text begins with the rule's number
pub own_number : (rule : RuleId) → rule_numbered (text_of rule) ≡ Some rule
unfolding rules_of place_in_letter
own_number S1 = refl
own_number rule = refl

-- what is found by the number of a rule's text is the rule
pub the_rule : (text : List ℕ) (rule own : RuleId) → Some own ≡ rule_numbered text → text ≡ text_of rule → own ≡ rule
the_rule text rule own found e = ap (λ (o : Option RuleId). unwrap_or o own) (found ∙ ap rule_numbered e ∙ own_number rule)

-- and something is found
pub has_rule : (text : List ℕ) (rule : RuleId) → None ≡ rule_numbered text → text ≢ text_of rule
has_rule text rule none e = none-some rule (none ∙ ap rule_numbered e ∙ own_number rule)
