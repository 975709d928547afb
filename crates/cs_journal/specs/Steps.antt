-- A step on a run: what a call under a pass leaves, and its answer.
use Rattle.std.specs.Prelude.{◌≡◌, ◌≢◌, ℕ, true, [], ◌∷◌, ◌++◌, length, not, ◌&&◌, is_some}
use Rattle.std.specs.Prelude.{if◌then◌else◌}
use Rattle.cs_names.specs.declared.rule_id.RuleId.TheVariants.{L1}
use Rattle.cs_permit.specs.declared.call.Call.{Call}
use Rattle.cs_run.specs.declared.answer.Answer.{Answer}
use Rattle.cs_run.specs.declared.answer.Answer.TheVariants.{Closed, Denied, Short}
use Rattle.cs_run.specs.Laws.{FitsCall}
use Rattle.cs_run.specs.Outcomes.{outcome}
use Rattle.cs_journal.specs.Calls.{closes_plainly, open_that_ends, is_full}
use Rattle.cs_journal.specs.Journals.{EntryOf, IsLegal, answer_to, apply, rules_view_of, turn_in}
use Rattle.cs_journal.specs.Marks.{StepMark, call_mark, refuses_entry}
use Rattle.cs_journal.specs.Runs.{Fits, PassOf, RunOf, first_state, opens_under, receipt_of}
use Rattle.cs_journal.specs.Runs.{state_of}

-- What a step leaves: its answer, the run, and the pass.
pub record StepResult : Type 0 where
  pub answer : Answer
  pub run : RunOf
  pub pass : PassOf

-- no entry: nothing changes
abbrev pub without_entry : RunOf → PassOf → Answer → StepResult
without_entry run pass answer = record { answer = answer; run = run; pass = pass }

-- one more entry, the last
abbrev pub run_with_entry : RunOf → EntryOf → RunOf
run_with_entry run entry = record {
  fresh = run.fresh;
  users = run.users;
  journal = run.journal ++ entry ∷ [];
  passes = run.passes;
}

-- the entry's receipt, and a place for the close of each open that is under the pass then
abbrev pub pass_with_receipt : RunOf → PassOf → EntryOf → PassOf
pass_with_receipt run pass entry = record {
  number = pass.number;
  receipts = pass.receipts ++ receipt_of (length run.journal) entry ∷ [];
  reserved = length (opens_under pass.number (apply (state_of run) entry).opens);
}

-- an entry, and the answer to its call
abbrev pub after_entry : RunOf → PassOf → EntryOf → StepResult
after_entry run pass entry = record {
  answer = answer_to (state_of run) entry;
  run = run_with_entry run entry;
  pass = pass_with_receipt run pass entry;
}

-- the entry of a call under a pass at a moment: its outcome is the one of its place
abbrev pub entry_of : RunOf → PassOf → ℕ → Call → StepMark → EntryOf
entry_of run pass now call mark = record {
  pass = pass.number;
  moment = now;
  call = call;
  outcome = outcome (rules_view_of (state_of run)) (turn_in (state_of run) pass.number now) call
      (call_mark mark);
}

-- no room in the journal is L1, and a failed allocation for entry or receipt is out of memory; a
-- call whose entry is reserved is refused by neither
unfoldable pub step : RunOf → PassOf → ℕ → Call → StepMark → StepResult
step run pass now call mark =
    if is_full (state_of run) pass.number call then without_entry run pass (Denied L1)
    else if refuses_entry mark
    && not (is_some (open_that_ends (state_of run).opens pass.number call))
    then without_entry run pass Short
    else after_entry run pass (entry_of run pass now call mark)

-- The contract of a step: it is the one that some mark gives, the journal is legal, and each pass
-- that fitted fits. A close whose open is there, and that removes nothing, is granted.
pub record IsStep (old : RunOf) (pass : PassOf) (now : ℕ) (call : Call) (answer : Answer)
    (new : RunOf) (left : PassOf) : Type 0 where
  pub stepped : (mark : StepMark)
      × (record { answer = answer; run = new; pass = left } ≡ step old pass now call mark)
  pub legal : IsLegal (first_state new) new.journal
  pub fits : Fits new left
  pub others : (q : PassOf) → q.number ≢ pass.number → Fits old q → Fits new q
  pub plain : closes_plainly (state_of old) pass.number call ≡ true → answer ≡ Closed
  pub answers : FitsCall call answer
