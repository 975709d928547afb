-- What a run's lock protects, and what is done under it.
use Rattle.std.specs.Prelude.{◌≡◌, ◌≢◌, ℕ, ◌<◌, ◌≤◌, ◌⊎◌, Result, Ok, Err, refl}
use Rattle.std.specs.Coded.{Coded, code_by, coded×, coded_ℕ}
use Rattle.cs_names.specs.declared.limits.TheConstants.{RUN_ATTACHES}
use Rattle.cs_names.specs.declared.rule_id.RuleId.TheVariants.{S5}
use Rattle.cs_permit.specs.declared.call.Call.{Call}
use Rattle.cs_run.specs.declared.answer.Answer.{Answer}
use Rattle.cs_run.specs.declared.answer.Answer.TheVariants.{Denied}
use Rattle.cs_journal.specs.Marks.{StepMark}
use Rattle.cs_journal.specs.Runs.{Fits, PassOf, RunOf, fresh_pass, run_code, with_pass}
use Rattle.cs_journal.specs.Steps.{step}
use Rattle.cs_permit.specs.declared.fault.PassFault.{PassFault}
use Rattle.cs_permit.specs.declared.fault.PassFault.TheVariants.{Foreign, Room, Memory}
use Rattle.cs_shared_runs.specs.Serving.{HasRuns}

-- A run, with the number of its state.
pub record Locked : Type 0 where
  pub number : ℕ
  pub run : RunOf

abbrev pub locked_code : Coded Locked
locked_code =
    code_by (ℕ × RunOf) (coded× coded_ℕ run_code) (λ l. (l.number, l.run))
    (λ p. record { number = p.0; run = p.1 }) (λ _. refl)

-- only the tree and the users with which this run began, under its number
abbrev pub BeganAs : Locked → HasRuns
BeganAs locked number tree users =
    (number ≡ locked.number) × (tree ≡ locked.run.fresh) × (users ≡ locked.run.users)

-- the number stays, and the tree and the users with which the run began
abbrev pub KeepsBegin : Locked → Locked → Type 0
KeepsBegin old new =
    (new.number ≡ old.number) × (new.run.fresh ≡ old.run.fresh) × (new.run.users ≡ old.run.users)

-- the answer, the run and the pass are those of a step; the number stays
abbrev pub LockedSteps : Locked → RunOf → PassOf → ℕ → Call → Answer → Locked → PassOf → Type 0
LockedSteps old run pass now call answer new pass' =
    (mark : StepMark) × (record { answer = answer; run = new.run; pass = pass' }
    ≡ step run pass now call mark) × (new.number ≡ old.number)

-- A call for the run of a number: S5, and nothing changes, if the numbers differ or the pass
-- doesn't fit; else a step.
pub record LockedCalls (old : Locked) (number : ℕ) (pass : PassOf) (now : ℕ) (call : Call)
    (answer : Answer) (new : Locked) (pass' : PassOf) : Type 0 where
  pub foreign : (number ≢ old.number) ⊎ (¬ Fits old.run pass)
      → (answer ≡ Denied S5) × (new ≡ old) × (pass' ≡ pass)
  pub stepped : number ≡ old.number → Fits old.run pass
      → LockedSteps old old.run pass now call answer new pass'

-- An attach to the run of a number: Foreign if the numbers differ; then Room; then out of memory;
-- nothing changes then. Else the call is made under a new pass.
abbrev pub LockedAttaches : Locked → ℕ → ℕ → Call → Result (PassOf × Answer) PassFault → Locked
    → Type 0
LockedAttaches old number now call (Ok x) new =
    (number ≡ old.number) × (old.run.passes < RUN_ATTACHES)
    × LockedSteps old (with_pass old.run) (fresh_pass old.run.passes) now call x.1 new x.0
LockedAttaches old number now call (Err Foreign) new = (number ≢ old.number) × (new ≡ old)
LockedAttaches old number now call (Err Room) new =
    (number ≡ old.number) × (RUN_ATTACHES ≤ old.run.passes) × (new ≡ old)
LockedAttaches old number now call (Err Memory) new =
    (number ≡ old.number) × (old.run.passes < RUN_ATTACHES) × (new ≡ old)
