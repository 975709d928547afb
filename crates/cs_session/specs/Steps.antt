-- The steps of a connection. A step answers by itself, or asks one question and continues from the
-- answer.
use Rattle.std.specs.Prelude.{◌≡◌, ℕ, Bool, is_some, Result, Ok, Err}
use Rattle.std.specs.FinMap.{remove}
use Rattle.cs_session.specs.declared.message.AttachMessage.{AttachMessage}
use Rattle.cs_session.specs.declared.message.CallMessage.{CallMessage}
use Rattle.cs_session.specs.declared.message.TableStep.{TableStep}
use Rattle.cs_session.specs.declared.reply.Reply.{Reply}
use Rattle.cs_session.specs.declared.reply.Reply.TheVariants as r
use Rattle.cs_session.specs.Attaches.{attach_after, attach_decision, find_after, find_decision}
use Rattle.cs_session.specs.Calls.{call_after, call_decision}
use Rattle.cs_session.specs.Removes.{close_decision, close_reply}
use Rattle.cs_session.specs.Marks.{OwnMark, refuses_own}
use Rattle.cs_session.specs.Questions.{Question, PortAnswer, CallAnswer}
use Rattle.cs_session.specs.Sessions.{SessionState, with_fids_left}
use Rattle.cs_session.specs.TableSteps.{table_stepped}

pub data Step : Type 0 where
  FindStep : AttachMessage → Step
  AttachStep : Step
  CallStep : CallMessage → Step
  CloseStep : (fid : ℕ) → Step
  Table : TableStep → Step

-- what a step does first: it answers by itself, or it asks
pub data FirstMove : Type 0 where
  Done : Reply → SessionState → FirstMove
  Asks : Question → FirstMove

-- if it is refused, the connection is unchanged
abbrev pub first_move_of : SessionState → Result Question Reply → FirstMove
first_move_of session (Err reply) = Done reply session
first_move_of session (Ok q) = Asks q

abbrev pub done_with : Reply × SessionState → FirstMove
done_with answered = Done answered.0 answered.1

-- the Bool says whether the memory that the connection itself takes is refused
abbrev pub first_move_by : ℕ → SessionState → Step → Bool → FirstMove
first_move_by now session (FindStep message) refused =
    first_move_of session
    (find_decision (is_some session.awaited) session.msize session.fids message refused)
first_move_by now session AttachStep refused =
    first_move_of session (attach_decision now session.awaited)
first_move_by now session (CallStep message) refused =
    first_move_of session
    (call_decision now (is_some session.awaited) session.msize session.fids message refused)
first_move_by now session (CloseStep fid) refused =
    first_move_of session (close_decision now (is_some session.awaited) session.fids fid)
first_move_by now session (Table change) refused = done_with (table_stepped session change)

-- if memory refuses what the mark says
abbrev pub first_move : ℕ → SessionState → Step → OwnMark → FirstMove
first_move now session step mark = first_move_by now session step (refuses_own mark)

-- the reply, and the session then, after what the port gives; a close frees the fid whatever the
-- answer is
abbrev pub reply_and_session : SessionState → Step → PortAnswer → Reply × SessionState
reply_and_session session (FindStep message) given = find_after session message given
reply_and_session session AttachStep given = attach_after session session.awaited given
reply_and_session session (CallStep message) (CallAnswer answer) =
    with_fids_left session (call_after session.fids message answer)
reply_and_session session (CloseStep fid) (CallAnswer answer) =
    with_fids_left session (close_reply answer, remove session.fids fid)
reply_and_session session step given = (r.Memory, session)

-- ---- a step with a port

module _ {P : Type 0} (gives : P → Question → PortAnswer → P → Type 0) where
  -- from what a step does first, to its reply and where it leads
  abbrev pub Continues : FirstMove → SessionState → P → Step → Reply → SessionState → P → Type 0
  Continues (Done own_reply own_session) session port step reply session' port' =
      (reply ≡ own_reply) × (session' ≡ own_session) × (port' ≡ port)
  Continues (Asks question) session port step reply session' port' =
      (given : PortAnswer) × gives port question given port'
      × ((reply, session') ≡ reply_and_session session step given)

  -- if memory refuses what the mark says, the step has this reply, and leads there
  abbrev pub TakesWithMark : ℕ → SessionState → P → Step → OwnMark → Reply → SessionState → P
      → Type 0
  TakesWithMark now session port step mark reply session' port' =
      Continues (first_move now session step mark) session port step reply session' port'

  -- the step is taken so if memory refuses what some mark says
  pub record IsStepTaken (now : ℕ) (session : SessionState) (port : P) (step : Step) (reply : Reply)
      (session' : SessionState) (port' : P) : Type 0 where
    pub mark : OwnMark
    pub takes : TakesWithMark now session port step mark reply session' port'
