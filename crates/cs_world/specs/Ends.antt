-- How a call on a run ends.
use Rattle.std.specs.Prelude.{Option, ◌≡◌, ℕ, true, false, None, Some}
use Rattle.cs_names.specs.declared.rule_id.RuleId.{RuleId}
use Rattle.cs_names.specs.declared.rule_id.RuleId.TheVariants.{L1}
use Rattle.cs_permit.specs.Calls.{failing_rule}
use Rattle.cs_permit.specs.declared.call.Call.{Call}
use Rattle.cs_run.specs.declared.answer.Answer.{Answer}
use Rattle.cs_run.specs.declared.answer.Answer.TheVariants as answers
use Rattle.cs_run.specs.declared.answer.Outcome.{Outcome}
use Rattle.cs_run.specs.declared.answer.Outcome.TheVariants as outcomes
use Rattle.cs_run.specs.Outcomes.{takes_memory}
use Rattle.cs_journal.specs.Calls.{open_that_ends, is_full}
use Rattle.cs_journal.specs.Journals.{EntryOf, answer_to, apply, rules_view_of, turn_in}
use Rattle.cs_journal.specs.Runs.{RunOf, state_of}
use Rattle.cs_journal.specs.Steps.{run_with_entry}

-- the entry of a call that ended so
abbrev pub entry_by : ℕ → ℕ → Call → Outcome → EntryOf
entry_by now pass call outcome =
    record { pass = pass; moment = now; call = call; outcome = outcome }

-- a call was made: the journal has one entry more, the last, with how it ended; and the answer, the
-- tree and the opens are what the call leaves by that
pub record HasEntry (run : RunOf) (entry : EntryOf) (answer : Answer) (run' : RunOf)
    : Type 0 where
  pub answer_is : answer ≡ answer_to (state_of run) entry
  pub run_is : run' ≡ run_with_entry run entry
  pub state : state_of run' ≡ apply (state_of run) entry

-- the first rule that the call fails in the run, if any
abbrev pub failing_rule_of : RunOf → Call → Option RuleId
failing_rule_of run call = failing_rule (rules_view_of (state_of run)) call

-- a call on a run ends in one of five ways; `want` of `StepIsJudged` says whether memory was
-- refused
pub data CallComesTo (run : RunOf) (now pass : ℕ) (call : Call) (answer : Answer) (run' : RunOf)
    : Type 0 where
  -- no room in the journal: nothing changes
  Full : is_full (state_of run) pass call ≡ true → answer ≡ answers.Denied L1 → run' ≡ run
      → CallComesTo run now pass call answer run'
  -- there is no memory for the entry, and the reply says out of memory: nothing changes
  ShortBefore : is_full (state_of run) pass call ≡ false
      → open_that_ends (state_of run).opens pass call ≡ None → answer ≡ answers.Short → run' ≡ run
      → CallComesTo run now pass call answer run'
  -- a rule fails, and this is the first
  Denied : (rule : RuleId) → is_full (state_of run) pass call ≡ false
      → failing_rule_of run call ≡ Some rule
      → HasEntry run (entry_by now pass call (outcomes.Denied rule)) answer run'
      → CallComesTo run now pass call answer run'
  -- no rule fails, and the call takes memory
  Short : is_full (state_of run) pass call ≡ false → failing_rule_of run call ≡ None
      → takes_memory (rules_view_of (state_of run)) (turn_in (state_of run) pass now) call ≡ true
      → HasEntry run (entry_by now pass call outcomes.Short) answer run'
      → CallComesTo run now pass call answer run'
  -- no rule fails, and the effect is that of the call
  Granted : is_full (state_of run) pass call ≡ false → failing_rule_of run call ≡ None
      → HasEntry run (entry_by now pass call outcomes.Granted) answer run'
      → CallComesTo run now pass call answer run'
