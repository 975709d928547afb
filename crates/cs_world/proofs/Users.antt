-- The users of a run stay those with which it was made.
use Rattle.std.proofs.Common.{◌≡◌, ◌∙◌, ℕ, Bool, true, false, List, [], ◌∷◌, Option, None, Some, refl}
use Rattle.std.specs.Prelude.{nat_le, nat_lt}
use Rattle.cs_journal.specs.Marks.{StepMark}
use Rattle.cs_journal.specs.Runs.{RunOf, with_pass}
use Rattle.cs_names.specs.declared.limits.TheConstants.{RUN_ATTACHES}
use Rattle.cs_permit.specs.declared.call.AttachCall.{AttachCall}
use Rattle.cs_permit.specs.declared.call.Call.{Call}
use Rattle.cs_permit.specs.declared.call.Call.TheVariants.{Attach}
use Rattle.cs_world.specs.declared.run_call.RunCall.{RunCall}
use Rattle.cs_world.specs.Marks.{RunMark, step_mark_of, refuses_pass}
use Rattle.cs_world.specs.Projections.{calls_alone, alone_by, attach_in, call_alone}
use Rattle.cs_world.specs.Runs.{attach_on, call_on, run_step}
use Rattle.cs_world.proofs.Judging.{judged, keeps_users}

module _ (run : RunOf) (now : ℕ) where
  step_users : (pass : ℕ) (call : Call) (mark : StepMark) → (run_step run now pass call mark).1.users ≡ run.users
  step_users pass call mark =
      keeps_users run now pass call (run_step run now pass call mark).0 (run_step run now pass call mark).1 (judged run now pass call mark)

  called_by : (pass : ℕ) (call : Call) (mark : StepMark) (known : Bool) → nat_lt pass run.passes ≡ known
      → (call_on run now pass call mark).1.users ≡ run.users
  called_by pass call mark false e = rw e refl
  called_by pass call mark true e = rw e (step_users pass call mark)

  called_users : (pass : ℕ) (call : Call) (mark : StepMark) → (call_on run now pass call mark).1.users ≡ run.users
  called_users pass call mark = called_by pass call mark (nat_lt pass run.passes) refl

module _ (run : RunOf) (now : ℕ) where
  attached_by : (call : AttachCall) (mark : RunMark) (full short : Bool) → nat_le RUN_ATTACHES run.passes ≡ full → refuses_pass mark ≡ short
      → (attach_on run now call mark).1.users ≡ run.users
  attached_by call mark true short f e = rw f refl
  attached_by call mark false true f e = rw (f, e) refl
  attached_by call mark false false f e = rw (f, e) (step_users (with_pass run) now run.passes (Attach call) (step_mark_of mark))

  served_by : (pass : ℕ) (call : Call) (mark : RunMark) (o : Option AttachCall) → (alone_by run now pass call mark o).1.users ≡ run.users
  served_by pass call mark (Some attach) = attached_by attach mark (nat_le RUN_ATTACHES run.passes) (refuses_pass mark) refl refl
  served_by pass call mark None = called_users run now pass call (step_mark_of mark)

-- whatever calls it was given
pub alone_users : (run : RunOf) (xs : List (RunCall × RunMark)) → (calls_alone run xs).1.users ≡ run.users
alone_users run [] = refl
alone_users run (x ∷ xs) =
    alone_users (call_alone run x.0.moment x.0.pass x.0.call x.1).1 xs ∙ served_by run x.0.moment x.0.pass x.0.call x.1 (attach_in x.0.call)
