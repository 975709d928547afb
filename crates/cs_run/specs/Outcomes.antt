-- How a call ends, and what it leaves then.
use Rattle.std.specs.Prelude.{◌≡◌, ℕ, ◌==◌, not, ◌&&◌, Bool, true, false, List, Option, None, Some}
use Rattle.std.specs.Prelude.{length}
use Rattle.std.specs.Option.{option_map_or}
use Rattle.cs_names.specs.declared.rule_id.RuleId.{RuleId}
use Rattle.cs_permit.specs.declared.call.Call.{Call}
use Rattle.cs_permit.specs.declared.call.Call.TheVariants.{Attach, Walk, Open, Create, Read, Write}
use Rattle.cs_permit.specs.declared.call.Call.TheVariants.{Close, Remove, Stat, Wstat}
use Rattle.cs_permit.specs.Calls.{RulesView, failing_rule}
use Rattle.cs_run.specs.declared.answer.Answer.TheVariants as a
use Rattle.cs_run.specs.declared.answer.Outcome.{Outcome}
use Rattle.cs_run.specs.declared.answer.Outcome.TheVariants as o
use Rattle.cs_run.specs.declared.turn.Turn.{Turn}
use Rattle.cs_run.specs.Effects.{CallResult, call_result, effect_of, requested_change, changes_some}
use Rattle.cs_run.specs.Effects.{removes_file, writes}
use Rattle.cs_run.specs.Marks.{CallMark, is_refused}
use Rattle.cs_run.specs.Opens.{open_numbered, opens_without_if}
use Rattle.cs_run.specs.Pages.{data_read}

-- the open that a call ends, even if it is denied: a close's, and that of a remove of an open fid
abbrev pub closed_open_number : Call → Option ℕ
closed_open_number (Close call) = Some call.open_number
closed_open_number (Remove call) = call.open_number
closed_open_number other = None

-- a list has an item
abbrev pub has_some : {A : Type 0} → List A → Bool
has_some xs = not (length xs == 0)

-- a call that is granted takes memory
abbrev pub takes_memory : RulesView → Turn → Call → Bool
takes_memory view turn (Attach call) = false
takes_memory view turn (Walk call) = has_some call.names
takes_memory view turn (Open call) = true
takes_memory view turn (Create call) = true
takes_memory view turn (Read call) = has_some (data_read view.tree call).bytes
takes_memory view turn (Write call) = writes view.tree call
takes_memory view turn (Close call) =
    removes_file view.tree (open_numbered call.open_number turn.pass view.opens)
takes_memory view turn (Remove call) = true
takes_memory view turn (Stat call) = true
takes_memory view turn (Wstat call) =
    option_map_or changes_some (requested_change view.tree call) false

-- denied by a rule that fails; else short of memory, or granted
abbrev pub outcome_by : Option RuleId → Bool → Outcome
outcome_by (Some rule) short = o.Denied rule
outcome_by None true = o.Short
outcome_by None false = o.Granted

-- denied by the first rule that fails; else short if it takes memory that is refused; else granted
unfoldable pub outcome : RulesView → Turn → Call → CallMark → Outcome
outcome view turn call mark =
    outcome_by (failing_rule view call) (is_refused mark && takes_memory view turn call)

-- what a call leaves by its outcome: a grant its effect, another nothing but that the open of a
-- close or a remove is released
abbrev pub result_by_outcome : RulesView → Turn → Call → Outcome → CallResult
result_by_outcome view turn call o.Granted = effect_of view turn call
result_by_outcome view turn call (o.Denied rule) =
    call_result view.tree (opens_without_if (closed_open_number call) turn.pass view.opens)
    (a.Denied rule)
result_by_outcome view turn call o.Short =
    call_result view.tree (opens_without_if (closed_open_number call) turn.pass view.opens) a.Short

-- the step: what a call leaves if the allocation that the mark names fails
abbrev pub result_by_mark : RulesView → Turn → Call → CallMark → CallResult
result_by_mark view turn call mark = result_by_outcome view turn call (outcome view turn call mark)

-- a call ends so and leaves that, if one allocation fails or none
pub record IsOutcomeOf (view : RulesView) (turn : Turn) (call : Call) (how : Outcome)
    (leaves : CallResult)
    : Type 0 where
  pub mark : CallMark
  pub ends : how ≡ outcome view turn call mark
  pub leaves_is : leaves ≡ result_by_mark view turn call mark
