-- The calls that reach the run of a key, as they are noted.
use Rattle.std.specs.Prelude.{◌≡◌, ℕ, Bool, true, false, List, [], ◌∷◌, ◌++◌, Result, Ok, Err}
use Rattle.std.specs.Prelude.{if◌then◌else◌}
use Rattle.std.specs.declared.alloc.AllocError.{AllocError}
use Rattle.cs_permit.specs.declared.call.Call.{Call}
use Rattle.cs_permit.specs.declared.fault.PassFault.{PassFault}
use Rattle.cs_run.specs.declared.answer.Answer.{Answer}
use Rattle.cs_session.specs.Questions.{Question, PortAnswer}
use Rattle.cs_world.specs.declared.run_call.RunCall.{RunCall}
use Rattle.cs_world.specs.declared.watched.WatchedRuns.{WatchedRuns}
use Rattle.cs_world.specs.Asking.{answer_of_runs}
use Rattle.cs_world.specs.Marks.{RunMark}
use Rattle.cs_world.specs.Projections.{calls_of, put_to}

-- one call more was noted, and nothing was refused before
abbrev pub NotesOne : List RunCall → Bool → ℕ → ℕ → Result Call AllocError → List RunCall → Type 0
NotesOne old short pass now (Ok call) new =
    (short ≡ false) × (new ≡ old ++ record { pass = pass; moment = now; call = call } ∷ [])
NotesOne old short pass now (Err fault) new = ⊥

-- a call was noted, if it reaches the run
abbrev pub NotesCall : List RunCall → Bool → Bool → ℕ → ℕ → Call → List RunCall → Type 0
NotesCall old short reaches pass now call new = (short ≡ false)
    × (new ≡ old ++
    (if reaches then record { pass = pass; moment = now; call = call } ∷ [] else []))

-- an attach that got a pass was noted, if it reaches the run
abbrev pub NotesAttach : List RunCall → Bool → Bool → ℕ → Result Call AllocError
    → Result (ℕ × Answer) PassFault → List RunCall → Type 0
NotesAttach old short false now call given new = (short ≡ false) × (new ≡ old)
NotesAttach old short true now call (Ok given) new = NotesOne old short given.0 now call new
NotesAttach old short true now call (Err fault) new = ⊥

-- the answer is the runs', and a call that reaches the run of the key is noted last
pub record IsWatched (old : WatchedRuns) (question : Question) (answer : PortAnswer)
    (new : WatchedRuns) : Type 0 where
  pub mark : RunMark
  pub answers : (answer, new.runs) ≡ answer_of_runs old.runs question mark
  pub key : new.key ≡ old.key
  pub noted : new.is_short ≡ false → (old.is_short ≡ false)
      × (new.calls.items ≡ old.calls.items ++ calls_of (put_to old.runs old.key question mark))
