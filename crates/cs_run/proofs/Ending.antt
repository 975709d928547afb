-- How a call ends, by its rules, its effect, and the memory that it takes.
use Rattle.std.proofs.Common.{◌≡◌, ◌∙◌, true, Some, None, refl, sym, ap}
use Rattle.cs_names.specs.declared.rule_id.RuleId.{RuleId}
use Rattle.cs_permit.specs.Calls.{RulesView, failing_rule}
use Rattle.cs_permit.specs.declared.call.Call.{Call}
use Rattle.cs_run.specs.Effects.{CallResult, effect_of}
use Rattle.cs_run.specs.Marks.{Ample, CallMark, NoGrant}
use Rattle.cs_run.specs.Outcomes.{IsOutcomeOf, result_by_outcome, outcome, takes_memory}
use Rattle.cs_run.specs.declared.answer.Outcome.{Outcome}
use Rattle.cs_run.specs.declared.answer.Outcome.TheVariants as o
use Rattle.cs_run.specs.declared.turn.Turn.{Turn}

module _ (s : RulesView) (w : Turn) (call : Call) (leaves : CallResult) where
  ended : (mark : CallMark) (how : Outcome) → outcome s w call mark ≡ how → leaves ≡ result_by_outcome s w call how
      → IsOutcomeOf s w call how leaves
  ended mark how out is = record { mark = mark; ends = sym out; leaves_is = is ∙ sym (ap (result_by_outcome s w call) out) }

  -- a rule that fails denies it
  pub denied : (rule : RuleId) → failing_rule s call ≡ Some rule → leaves ≡ result_by_outcome s w call (o.Denied rule)
      → IsOutcomeOf s w call (o.Denied rule) leaves
  unfolding outcome
  denied rule fails is = ended Ample (o.Denied rule) (rw fails refl) is

  -- one that no rule denies is granted
  pub granted : failing_rule s call ≡ None → leaves ≡ effect_of s w call → IsOutcomeOf s w call o.Granted leaves
  unfolding outcome
  granted none is = ended Ample o.Granted (rw none refl) is

  -- or short, if it takes memory
  pub short : failing_rule s call ≡ None → takes_memory s w call ≡ true → leaves ≡ result_by_outcome s w call o.Short
      → IsOutcomeOf s w call o.Short leaves
  unfolding outcome
  short none takes is = ended NoGrant o.Short (rw (none, takes) refl) is
