-- A message from its steps.
use Rattle.std.proofs.Common.{◌≡◌, [], ◌∷◌, ℕ, Bool, true, false, ◌≢◌, Option, None, Some, ap, refl, rules}
use Rattle.std.specs.Prelude.{IsSome, is_ok}
use Rattle.cs_fids.specs.declared.entry.FidEntry.{FidEntry}
use Rattle.cs_fids.specs.declared.entry.FidEntry.TheVariants as entry
use Rattle.cs_fids.specs.Tables.{least_open, opened_in}
use Rattle.cs_session.specs.declared.message.AttachMessage.{AttachMessage}
use Rattle.cs_session.specs.declared.message.Message.{Message}
use Rattle.cs_session.specs.declared.message.Message.TheVariants as m
use Rattle.cs_session.specs.declared.message.TableStep.TheVariants as t
use Rattle.cs_session.specs.declared.reply.Reply.{Reply}
use Rattle.cs_session.specs.declared.reply.Reply.TheVariants as r
use Rattle.cs_session.specs.Questions.{Question, PortAnswer}
use Rattle.cs_session.specs.Sessions.{Awaited, SessionState, empty_session}
use Rattle.cs_session.specs.TableSteps.{table_stepped}
use Rattle.cs_session.specs.Steps.{Step, IsStepTaken, FindStep, AttachStep, CloseStep, Table}
use Rattle.cs_session.specs.Messages.{IfElse, IsAnswered, close_or, clunk_or, closes_first, find_or, goes_on, next_step}

either_true : (b : Bool) (A B : Type 0) → b ≡ true → A → IfElse b A B
either_true true A B e a = a
either_true false A B e a = absurd (cc)

either_false : (b : Bool) (A B : Type 0) → b ≡ false → B → IfElse b A B
either_false true A B e a = absurd (cc)
either_false false A B e a = a

module _ {P : Type 0} (gives : P → Question → PortAnswer → P → Type 0) (now : ℕ) (message : Message) (s : SessionState) (p : P) where
  -- the step that answers the message
  pub ends_by : (x : Step) → next_step message s ≡ x → (step_reply : Reply) (mid : SessionState) (there : P)
      → IsStepTaken gives now s p x step_reply mid there → goes_on message x step_reply ≡ false
      → IsAnswered gives now message s p step_reply mid there
  ends_by x e step_reply mid there t f =
      let taken : IsStepTaken gives now s p (next_step message s) step_reply mid there = rw e t in
      let last : goes_on message (next_step message s) step_reply ≡ false = rw e f in
      record { marks = taken.mark ∷ []; answers = (step_reply, mid, there, taken.takes, either_false _ _ _ last (refl, refl, refl, refl)) }

  -- a step before the others
  pub goes_by : (x : Step) → next_step message s ≡ x → (step_reply : Reply) (mid : SessionState) (there : P)
      → IsStepTaken gives now s p x step_reply mid there → goes_on message x step_reply ≡ true
      → (reply : Reply) (s' : SessionState) (p' : P) → IsAnswered gives now message mid there reply s' p'
      → IsAnswered gives now message s p reply s' p'
  goes_by x e step_reply mid there t f reply s' p' a =
      let taken : IsStepTaken gives now s p (next_step message s) step_reply mid there = rw e t in
      let more : goes_on message (next_step message s) step_reply ≡ true = rw e f in
      record { marks = taken.mark ∷ a.marks; answers = (step_reply, mid, there, taken.takes, either_true _ _ _ more a.answers) }

-- closing the least open fid comes first
pub closes : {P : Type 0} (gives : P → Question → PortAnswer → P → Type 0) (now : ℕ) (message : Message) (s : SessionState) (p : P)
    (fid : ℕ) (step_reply : Reply) (mid : SessionState) (there : P)
    → closes_first message ≡ true → least_open s.fids ≡ Some fid → IsStepTaken gives now s p (CloseStep fid) step_reply mid there
    → (reply : Reply) (s' : SessionState) (p' : P) → IsAnswered gives now message mid there reply s' p'
    → IsAnswered gives now message s p reply s' p'
closes gives now (m.Version msize version) s p fid step_reply mid there first o taken =
    goes_by gives now (m.Version msize version) s p (CloseStep fid) (ap (λ f. close_or f (t.Version msize version)) o) step_reply mid there
    taken refl
closes gives now m.HangUp s p fid step_reply mid there first o taken =
    goes_by gives now m.HangUp s p (CloseStep fid) (ap (λ f. close_or f t.HangUp) o) step_reply mid there taken refl
closes gives now other s p fid step_reply mid there first o taken = absurd (cc)

pub clunk_closes : (fid : ℕ) (o : Option FidEntry) → is_ok (opened_in o) ≡ true → clunk_or fid o ≡ CloseStep fid
clunk_closes fid (Some (entry.Opened x)) h = refl
clunk_closes fid other h = absurd (cc)

pub clunk_frees : (fid : ℕ) (o : Option FidEntry) → is_ok (opened_in o) ≡ false → clunk_or fid o ≡ Table (t.Clunk fid)
clunk_frees fid (Some (entry.Opened x)) h = absurd (cc)
clunk_frees fid other h = refl

pub attach_comes : (o : Option Awaited) (x : AttachMessage) → IsSome o → find_or o x ≡ AttachStep
attach_comes None x h = absurd (search rules)
attach_comes (Some p) x h = refl

pub not_found : (x y : AttachMessage) (step_reply : Reply) → step_reply ≢ r.Found → goes_on (m.Attach x) (FindStep y) step_reply ≡ false
not_found x y r.Found h = absurd (h refl)
not_found x y step_reply h = refl

-- with no fid open, and no run that awaits its attach, a hang-up leaves nothing
pub hung_up : (s : SessionState) → s.awaited ≡ None → least_open s.fids ≡ None → table_stepped s t.HangUp ≡ (r.Closed, empty_session None)
hung_up s idle closed = rw (idle, closed) refl
