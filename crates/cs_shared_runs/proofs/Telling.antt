-- What is known of a step on the run under a lock.
use Rattle.std.proofs.Common.{◌≡◌, ◌≢◌, ◌≤◌, ◌∙◌, ℕ, ◌&&◌, not, Bool, true, false, is_some, List, refl, subst, sym, ap}
use Rattle.std.specs.Prelude.{if◌then◌else◌}
use Rattle.cs_names.specs.declared.limits.TheConstants.{RUN_ATTACHES}
use Rattle.cs_names.specs.declared.rule_id.RuleId.TheVariants.{L1}
use Rattle.cs_permit.specs.declared.call.Call.{Call}
use Rattle.cs_run.specs.declared.answer.Answer.{Answer}
use Rattle.cs_run.specs.declared.answer.Answer.TheVariants.{Denied, Short}
use Rattle.cs_journal.specs.Calls.{open_that_ends, is_full}
use Rattle.cs_journal.specs.Journals.{IsLegal}
use Rattle.cs_journal.specs.Marks.{StepMark, refuses_entry}
use Rattle.cs_journal.specs.Runs.{Fits, PassOf, RunOf, first_state, state_of}
use Rattle.cs_journal.specs.Steps.{StepResult, after_entry, entry_of, step, without_entry}
use Rattle.cs_tree_model.specs.Tree.{Tree}
use Rattle.cs_users.specs.Rows.{Row}
use Rattle.cs_shared_runs.specs.Serving.{HasRuns}
use Rattle.cs_permit.specs.declared.fault.PassFault.{PassFault}
use Rattle.cs_permit.specs.declared.fault.PassFault.TheVariants.{Foreign, Room, Memory}
use Rattle.cs_shared_runs.specs.Answers.{IsFull, IsOfAnother, IsRefused, IsServed, IsStepOfServedRun, IsUnfit}

module _ (run : RunOf) (pass : PassOf) (now : ℕ) (call : Call) (mark : StepMark) where
  -- what holds of each end that a step may have holds of the step
  of_each_end : (P : StepResult → Type 0) → P (without_entry run pass (Denied L1)) → P (without_entry run pass Short)
      → P (after_entry run pass (entry_of run pass now call mark)) → P (step run pass now call mark)
  unfolding step
  of_each_end P of_full of_short of_entering =
      by (is_full (state_of run) pass.number call)
      (refuses_entry mark && not (is_some (open_that_ends (state_of run).opens pass.number call)))
    where
      by : (full short : Bool)
          → P (if full then without_entry run pass (Denied L1)
          else (if short then without_entry run pass Short else after_entry run pass (entry_of run pass now call mark)))
      by true short = of_full
      by false true = of_short
      by false false = of_entering

  -- a step leaves the tree with which the run began
  pub step_keeps : (step run pass now call mark).run.fresh ≡ run.fresh
  step_keeps = of_each_end (λ s. s.run.fresh ≡ run.fresh) refl refl refl

  -- and the users
  pub step_keeps_users : (step run pass now call mark).run.users ≡ run.users
  step_keeps_users = of_each_end (λ s. s.run.users ≡ run.users) refl refl refl

  -- nor does the pass get another number
  pub step_numbers : (step run pass now call mark).pass.number ≡ pass.number
  step_numbers = of_each_end (λ s. s.pass.number ≡ pass.number) refl refl refl

module _ (serves : HasRuns) (number : ℕ) (run run' : RunOf) (pass pass' : PassOf) (now : ℕ) (call : Call) (answer : Answer)
    (served : serves number run.fresh run.users) (stepped : (mark : StepMark) × (record {
      answer = answer;
      run = run';
      pass = pass';
    } ≡ step run pass now call mark)) where
  -- so the server has it still under the number
  pub served_after : serves number run'.fresh run'.users
  served_after =
      let tree = sym (ap (λ (s : StepResult). s.run.fresh) stepped.1 ∙ step_keeps run pass now call stepped.0) in
      let users = sym (ap (λ (s : StepResult). s.run.users) stepped.1 ∙ step_keeps_users run pass now call stepped.0) in
      subst (λ (us : List Row). serves number run'.fresh us) users (subst (λ (t : Tree). serves number t run.users) tree served)

  -- an answer to a call on the run under the lock is one of a step
  pub told : IsLegal (first_state run) run.journal → Fits run pass → IsLegal (first_state run') run'.journal → Fits run' pass'
      → IsStepOfServedRun serves number pass now call answer pass'
  told legal fits legal' fits' =
      let left = subst (λ (s : StepResult). IsServed serves number s.run × Fits s.run pass') stepped.1 (
        record {
          began = served_after;
          legal = legal';
        },
        fits',
      ) in record {
        run = run;
        mark = stepped.0;
        served = record { began = served; legal = legal };
        fits = fits;
        answer_is = ap (λ (s : StepResult). s.answer) stepped.1;
        pass_is = ap (λ (s : StepResult). s.pass) stepped.1;
        served_after = left.0;
        fits_after = left.1;
      }

module _ (serves : HasRuns) (number other : ℕ) (run : RunOf) (served : serves other run.fresh run.users)
    (legal : IsLegal (first_state run) run.journal) where
  -- the run under the lock is of another number
  pub another : other ≢ number → IsOfAnother serves number
  another differs = record { other = other; run = run; served = record { began = served; legal = legal }; differs = differs }

  module _ (own : other ≡ number) where
    -- it is of this one
    pub its_own : IsServed serves number run
    its_own = subst (λ (n : ℕ). IsServed serves n run) own (record { began = served; legal = legal })

    pub unfit : (pass : PassOf) → (¬ Fits run pass) → IsUnfit serves number pass
    unfit pass not = record { run = run; served = its_own; unfit = not }

    pub full : RUN_ATTACHES ≤ run.passes → IsFull serves number
    full many = record { run = run; served = its_own; full = many }

    -- why it gives no pass
    pub refused : (fault : PassFault) → fault ≢ Foreign → (fault ≡ Room → RUN_ATTACHES ≤ run.passes) → IsRefused serves number fault
    refused Foreign own room = absurd (own refl)
    refused Room own room = full (room refl)
    refused Memory own room = tt
