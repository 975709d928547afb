-- What holds of the run under a lock, by how it began, holds of the server that has such runs.
use Rattle.std.proofs.Common.{◌≡◌, ◌⊎◌, inl, inr, ℕ, List, sym, subst}
use Rattle.std.specs.Prelude.{Option, None, Some, Result, Ok, Err}
use Rattle.cs_permit.specs.declared.call.Call.{Call}
use Rattle.cs_permit.specs.declared.fault.PassFault.{PassFault}
use Rattle.cs_permit.specs.declared.fault.PassFault.TheVariants.{Foreign, Room, Memory}
use Rattle.cs_run.specs.declared.answer.Answer.{Answer}
use Rattle.cs_journal.specs.Runs.{PassOf, RunOf, fresh_pass}
use Rattle.cs_tree_model.specs.Tree.{Tree}
use Rattle.cs_users.specs.Rows.{Row}
use Rattle.cs_shared_runs.specs.Answers.{IsAnswerOf, IsAttachOf, IsLookOf, IsOfAnother, IsServed, IsStepOfServedRun, IsUnfit}
use Rattle.cs_shared_runs.specs.Locks.{BeganAs, Locked}
use Rattle.cs_shared_runs.specs.Serving.{HasRuns}

module _ (serves : HasRuns) (old : Locked) (served : serves old.number old.run.fresh old.run.users) where
  has_run : (number : ℕ) (tree : Tree) (users : List Row) → BeganAs old number tree users → serves number tree users
  has_run number tree users is =
      subst (λ (n : ℕ). serves n tree users) (sym is.0)
      (subst (λ (t : Tree). serves old.number t users) (sym is.1)
      (subst (λ (us : List Row). serves old.number old.run.fresh us) (sym is.2) served))

  of_server : (number : ℕ) (run : RunOf) → IsServed (BeganAs old) number run → IsServed serves number run
  of_server number run is = record { began = has_run number run.fresh run.users is.began; legal = is.legal }

  another_of_server : (number : ℕ) → IsOfAnother (BeganAs old) number → IsOfAnother serves number
  another_of_server number is = record {
    other = is.other;
    run = is.run;
    served = of_server is.other is.run is.served;
    differs = is.differs;
  }

  unfit_of_server : (number : ℕ) (pass : PassOf) → IsUnfit (BeganAs old) number pass → IsUnfit serves number pass
  unfit_of_server number pass is = record { run = is.run; served = of_server number is.run is.served; unfit = is.unfit }

  step_of_server : (number : ℕ) (pass : PassOf) (now : ℕ) (call : Call) (answer : Answer) (pass' : PassOf)
      → IsStepOfServedRun (BeganAs old) number pass now call answer pass'
      → IsStepOfServedRun serves number pass now call answer pass'
  step_of_server number pass now call answer pass' is = record {
    run = is.run;
    mark = is.mark;
    served = of_server number is.run is.served;
    fits = is.fits;
    answer_is = is.answer_is;
    pass_is = is.pass_is;
    served_after = of_server number _ is.served_after;
    fits_after = is.fits_after;
  }

  -- an answer
  pub answer_of_server : (number : ℕ) (pass : PassOf) (now : ℕ) (call : Call) (answer : Answer) (pass' : PassOf)
      → IsAnswerOf (BeganAs old) number pass now call answer pass' → IsAnswerOf serves number pass now call answer pass'
  answer_of_server number pass now call answer pass' (inl is) = inl (step_of_server number pass now call answer pass' is)
  answer_of_server number pass now call answer pass' (inr is) = inr (why is.0, is.1, is.2)
    where
      why : IsOfAnother (BeganAs old) number ⊎ IsUnfit (BeganAs old) number pass
          → IsOfAnother serves number ⊎ IsUnfit serves number pass
      why (inl other) = inl (another_of_server number other)
      why (inr unfit) = inr (unfit_of_server number pass unfit)

  -- the result of an attach
  pub attach_of_server : (number now : ℕ) (call : Call) (result : Result (PassOf × Answer) PassFault)
      → IsAttachOf (BeganAs old) number now call result → IsAttachOf serves number now call result
  attach_of_server number now call (Ok x) is = step_of_server number (fresh_pass x.0.number) now call x.1 x.0 is
  attach_of_server number now call (Err Foreign) is = another_of_server number is
  attach_of_server number now call (Err Room) is = record {
    run = is.run;
    served = of_server number is.run is.served;
    full = is.full;
  }
  attach_of_server number now call (Err Memory) is = tt

  -- what a look returned
  pub look_of_server : {T : Type 0} → (number : ℕ) (may_return : RunOf → T → Type 0) (found : Option T)
      → IsLookOf (BeganAs old) number may_return found → IsLookOf serves number may_return found
  look_of_server number may_return (Some found) is = (is.0, of_server number is.0 is.1, is.2)
  look_of_server number may_return None is = another_of_server number is
