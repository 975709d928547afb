use Rattle.std.proofs.Common.{◌≡◌, ℕ, ◌∙◌, Bool, true, false, [], ◌∷◌, Option, Some, None, refl, ap}
use Rattle.std.specs.Prelude.{is_none}
use Rattle.std.specs.Result.{result_err}
use Rattle.cs_names.specs.declared.rule_id.RuleId.TheVariants.{K6, K7, K8}
use Rattle.cs_permit.specs.Refusals.{first_failing}
use Rattle.cs_permit.specs.Walks.{number_by_name, element_result}
use Rattle.cs_permit.proofs.walk.first_of_element.Goals as goal

-- an element leads nowhere exactly by the first of its rules that fails
err-stepped : (a b : Bool) (m : Option ℕ)
    → result_err (element_result (first_failing ((K6, a) ∷ (K7, b) ∷ (K8, is_none m) ∷ [])) m)
    ≡ first_failing ((K6, a) ∷ (K7, b) ∷ (K8, is_none m) ∷ [])
err-stepped true b m = refl
err-stepped false true m = refl
err-stepped false false None = refl
err-stepped false false (Some n) = refl

pub returns : goal.returns
returns g c =
    c.err.ensures.value
    ∙ ap result_err c.walk_element_at.ensures
    ∙ err-stepped _ _ (number_by_name (g.T.TreeRead.tree c.args.tree.now) c.args.number c.args.name.now)
