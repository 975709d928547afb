-- What a call on a shared run returns, independent of other threads.
use Rattle.std.specs.Prelude.{◌≡◌, ◌≢◌, ℕ, ◌≤◌, ◌⊎◌, ⊤, Option, None, Some, Result, Ok, Err}
use Rattle.cs_names.specs.declared.limits.TheConstants.{RUN_ATTACHES}
use Rattle.cs_names.specs.declared.rule_id.RuleId.TheVariants.{S5}
use Rattle.cs_permit.specs.declared.call.Call.{Call}
use Rattle.cs_permit.specs.declared.fault.PassFault.{PassFault}
use Rattle.cs_permit.specs.declared.fault.PassFault.TheVariants.{Foreign, Room, Memory}
use Rattle.cs_run.specs.declared.answer.Answer.{Answer}
use Rattle.cs_run.specs.declared.answer.Answer.TheVariants.{Denied}
use Rattle.cs_journal.specs.Journals.{IsLegal}
use Rattle.cs_journal.specs.Marks.{StepMark}
use Rattle.cs_journal.specs.Runs.{Fits, PassOf, RunOf, first_state, fresh_pass}
use Rattle.cs_journal.specs.Steps.{step}
use Rattle.cs_registry.specs.Keys.{Key}
use Rattle.cs_shared_runs.specs.Serving.{HasRuns}

-- A run that the server has under the number, over its tree and with its users, with a legal
-- journal. Only a run's lock gives one.
pub record IsServed (serves : HasRuns) (number : ℕ) (run : RunOf) : Type 0 where
  pub began : serves number run.fresh run.users
  pub legal : IsLegal (first_state run) run.journal

-- There is such a run that the pass fits. The answer and the pass that is left are those of a step
-- on it, which leaves such a run.
pub record IsStepOfServedRun (serves : HasRuns) (number : ℕ) (pass : PassOf) (now : ℕ) (call : Call)
    (answer : Answer) (pass' : PassOf) : Type 0 where
  pub run : RunOf
  pub mark : StepMark
  pub served : IsServed serves number run
  pub fits : Fits run pass
  pub answer_is : answer ≡ (step run pass now call mark).answer
  pub pass_is : pass' ≡ (step run pass now call mark).pass
  pub served_after : IsServed serves number (step run pass now call mark).run
  pub fits_after : Fits (step run pass now call mark).run pass'

-- The run under the lock is of another number.
pub record IsOfAnother (serves : HasRuns) (number : ℕ) : Type 0 where
  pub other : ℕ
  pub run : RunOf
  pub served : IsServed serves other run
  pub differs : other ≢ number

-- The run under the lock is of the number, and the pass doesn't fit it.
pub record IsUnfit (serves : HasRuns) (number : ℕ) (pass : PassOf) : Type 0 where
  pub run : RunOf
  pub served : IsServed serves number run
  pub unfit : ¬ Fits run pass

-- S5, for one of these two reasons, and the pass stays
abbrev pub IsForeign : HasRuns → ℕ → PassOf → Answer → PassOf → Type 0
IsForeign serves number pass answer pass' =
    (IsOfAnother serves number ⊎ IsUnfit serves number pass)
    × (answer ≡ Denied S5) × (pass' ≡ pass)

abbrev pub IsAnswerOf : HasRuns → ℕ → PassOf → ℕ → Call → Answer → PassOf → Type 0
IsAnswerOf serves number pass now call answer pass' =
    IsStepOfServedRun serves number pass now call answer pass'
    ⊎ IsForeign serves number pass answer pass'

-- The run under the lock is of the number, and gave as many passes as a run gives.
pub record IsFull (serves : HasRuns) (number : ℕ) : Type 0 where
  pub run : RunOf
  pub served : IsServed serves number run
  pub full : RUN_ATTACHES ≤ run.passes

-- why an attach gives no pass; no reason is stated for a failed allocation
abbrev pub IsRefused : HasRuns → ℕ → PassFault → Type 0
IsRefused serves number Foreign = IsOfAnother serves number
IsRefused serves number Room = IsFull serves number
IsRefused serves number Memory = ⊤

-- An attach by this call: the answer and the pass are those of a step under a new pass; or it was
-- refused for a reason.
abbrev pub IsAttachOf : HasRuns → ℕ → ℕ → Call → Result (PassOf × Answer) PassFault → Type 0
IsAttachOf serves number now call (Ok x) =
    IsStepOfServedRun serves number (fresh_pass x.0.number) now call x.1 x.0
IsAttachOf serves number now call (Err fault) = IsRefused serves number fault

-- what a look returned of the run under the lock; None if that is of another number
abbrev pub IsLookOf : {T : Type 0} → HasRuns → ℕ → (RunOf → T → Type 0) → Option T → Type 0
IsLookOf serves number may_return (Some found) =
    (run : RunOf) × IsServed serves number run × may_return run found
IsLookOf serves number may_return None = IsOfAnother serves number

-- which answers the runs of a server gave: to a call for the run of a key, under a pass, at a
-- moment; the last is the pass that was left
abbrev pub GivesAnswer : Type 1
GivesAnswer = Key → PassOf → ℕ → Call → Answer → PassOf → Type 0

-- which results they gave for an attach: for the run of a key, at a moment, to a call
abbrev pub GivesAttach : Type 1
GivesAttach = Key → ℕ → Call → Result (PassOf × Answer) PassFault → Type 0
