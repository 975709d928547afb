-- The first rule of a list that fails.
use Rattle.std.proofs.Common.{◌≡◌, true, false, List, [], ◌∷◌, ◌++◌, Some, None, refl, ap}
use Rattle.cs_names.specs.declared.rule_id.RuleId.{RuleId}
use Rattle.cs_permit.specs.Refusals.{AllPass, Check, IsFirstToFail, first_failing, first_failing_or}

pub first_failing-denied : (checks : List Check) (rule : RuleId) → first_failing checks ≡ Some rule → IsFirstToFail checks rule
first_failing-denied [] rule e = absurd (cc)
first_failing-denied ((name, true) ∷ checks) rule e =
    let same : name ≡ rule = (let two : Some name ≡ Some rule = e in cc) in
    record { passed = []; later = checks; list_is = ap (λ (r : RuleId). (r, true) ∷ checks) same; none_before = tt }
first_failing-denied ((name, false) ∷ checks) rule e =
    let rest = first_failing-denied checks rule e in
    record {
      passed = (name, false) ∷ rest.passed;
      later = rest.later;
      list_is = ap (λ (cs : List Check). (name, false) ∷ cs) rest.list_is;
      none_before = (refl, rest.none_before);
    }

pub first_failing-granted : (checks : List Check) → first_failing checks ≡ None → AllPass checks
first_failing-granted [] e = tt
first_failing-granted ((name, true) ∷ checks) e = absurd (cc)
first_failing-granted ((name, false) ∷ checks) e = (refl, first_failing-granted checks e)

pub first_failing_append : (xs ys : List Check) → first_failing (xs ++ ys) ≡ first_failing_or (first_failing xs) (first_failing ys)
first_failing_append [] ys = refl
first_failing_append ((rule, true) ∷ xs) ys = refl
first_failing_append ((rule, false) ∷ xs) ys = first_failing_append xs ys

pub AllPass-append : (xs ys : List Check) → AllPass (xs ++ ys) → AllPass xs × AllPass ys
AllPass-append [] ys all = (tt, all)
AllPass-append (c ∷ xs) ys all = (let rest = AllPass-append xs ys all.1 in ((all.0, rest.0), rest.1))
