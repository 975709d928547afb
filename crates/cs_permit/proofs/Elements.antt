-- The rule that stops an element of a walk.
use Rattle.std.proofs.Common.{◌≡◌, Bool, true, [], ◌∷◌, None, arith}
use Rattle.cs_names.specs.declared.rule_id.RuleId.TheVariants.{K6, K7, K8}
use Rattle.cs_permit.specs.Refusals.{first_failing}

-- the last rule of an element fails if it leads to no file
pub last_fails : (a b c : Bool) → c ≡ true → first_failing ((K6, a) ∷ (K7, b) ∷ (K8, c) ∷ []) ≡ None → ⊥
last_fails a b c e h = grind arith
