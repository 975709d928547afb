-- A message is its steps, one after the other, and the last one's reply.
use Rattle.std.specs.Prelude.{◌≡◌, ℕ, Bool, true, false, List, [], ◌∷◌, Option, None, Some}
use Rattle.cs_fids.specs.declared.entry.FidEntry.{FidEntry}
use Rattle.cs_fids.specs.declared.entry.FidEntry.TheVariants as entry
use Rattle.cs_fids.specs.Tables.{least_open}
use Rattle.cs_session.specs.declared.message.AttachMessage.{AttachMessage}
use Rattle.cs_session.specs.declared.message.Message.{Message}
use Rattle.cs_session.specs.declared.message.Message.TheVariants as m
use Rattle.cs_session.specs.declared.message.TableStep.{TableStep}
use Rattle.cs_session.specs.declared.message.TableStep.TheVariants as t
use Rattle.cs_session.specs.declared.reply.Reply.{Reply}
use Rattle.cs_session.specs.declared.reply.Reply.TheVariants as r
use Rattle.cs_session.specs.Marks.{OwnMark}
use Rattle.cs_session.specs.Questions.{Question, PortAnswer}
use Rattle.cs_session.specs.Sessions.{Awaited, SessionState, entry_at}
use Rattle.cs_session.specs.Steps.{Step, FindStep, AttachStep, CallStep, CloseStep, Table}
use Rattle.cs_session.specs.Steps.{TakesWithMark}

-- the least open fid is closed first, while there is one
abbrev pub close_or : Option ℕ → TableStep → Step
close_or None change = Table change
close_or (Some fid) change = CloseStep fid

-- a run is found, and then attached to
abbrev pub find_or : Option Awaited → AttachMessage → Step
find_or None message = FindStep message
find_or (Some awaited) message = AttachStep

-- an open fid is closed, another is freed
abbrev pub clunk_or : ℕ → Option FidEntry → Step
clunk_or fid None = Table (t.Clunk fid)
clunk_or fid (Some (entry.Walked x)) = Table (t.Clunk fid)
clunk_or fid (Some (entry.Opened x)) = CloseStep fid

-- the step that a message takes next
abbrev pub next_step : Message → SessionState → Step
next_step (m.Version msize version) session =
    close_or (least_open session.fids) (t.Version msize version)
next_step (m.Attach message) session = find_or session.awaited message
next_step (m.Call message) session = CallStep message
next_step (m.Clunk fid) session = clunk_or fid (entry_at session fid)
next_step m.HangUp session = close_or (least_open session.fids) t.HangUp

-- the message isn't answered yet: fids are being closed, or a run was found
abbrev pub goes_on : Message → Step → Reply → Bool
goes_on (m.Version msize version) (CloseStep fid) reply = true
goes_on m.HangUp (CloseStep fid) reply = true
goes_on (m.Attach attach) (FindStep message) r.Found = true
goes_on message step reply = false

-- a message before whose last step all open fids are closed: a version and the end of a connection
abbrev pub closes_first : Message → Bool
closes_first (m.Version msize version) = true
closes_first m.HangUp = true
closes_first message = false

-- the first type if the test holds, else the second
abbrev pub IfElse : Bool → Type 0 → Type 0 → Type 0
IfElse true A B = A
IfElse false A B = B

module _ {P : Type 0} (gives : P → Question → PortAnswer → P → Type 0) (now : ℕ)
    (message : Message) where
  -- the steps of a message, each with its mark, of which the last answers it
  abbrev pub Answers : List OwnMark → SessionState → P → Reply → SessionState → P → Type 0
  Answers [] session port reply session' port' = ⊥
  Answers (mark ∷ marks) session port reply session' port' =
      (step_reply : Reply) × (mid : SessionState) × (there : P)
      × TakesWithMark gives now session port (next_step message session) mark step_reply mid there
      × IfElse (goes_on message (next_step message session) step_reply)
      (Answers marks mid there reply session' port')
      ((marks ≡ []) × (reply ≡ step_reply) × (session' ≡ mid) × (port' ≡ there))

  -- the message is answered by its steps, with some marks, one for each step
  pub record IsAnswered (session : SessionState) (port : P) (reply : Reply)
      (session' : SessionState)
      (port' : P) : Type 0 where
    pub marks : List OwnMark
    pub answers : Answers marks session port reply session' port'
