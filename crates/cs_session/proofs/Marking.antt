-- A step from what was decided and what the port gave.
use Rattle.std.proofs.Common.{◌≡◌, ◌∙◌, ℕ, Bool, true, false, Result, Ok, Err, Option, None, Some, List, refl, sym, ap}
use Rattle.std.specs.Prelude.{is_some}
use Rattle.cs_fids.specs.Tables.{FidMap}
use Rattle.cs_permit.specs.declared.call.AttachCall.{AttachCall}
use Rattle.cs_run.specs.declared.answer.Answer.{Answer}
use Rattle.cs_session.specs.declared.message.CallMessage.{CallMessage}
use Rattle.cs_session.specs.declared.reply.Reply.{Reply}
use Rattle.cs_permit.specs.declared.fault.PassFault.{PassFault}
use Rattle.cs_session.specs.Attaches.{attach_after, attach_settled}
use Rattle.cs_session.specs.Names.{user_in}
use Rattle.cs_session.specs.Calls.{call_after, call_decision}
use Rattle.cs_session.specs.Marks.{Ample, NoOwn}
use Rattle.cs_session.specs.Questions.{Question, PortAnswer, AttachAnswer, CallAnswer}
use Rattle.cs_session.specs.Sessions.{SessionState, with_fids_left, with_fids, with_awaited}
use Rattle.cs_session.specs.declared.message.TableStep.{TableStep}
use Rattle.cs_session.specs.Steps.{Step, CallStep, Table, first_move_by, first_move_of, reply_and_session, IsStepTaken}
use Rattle.cs_session.specs.TableSteps.{table_stepped}

module _ {P : Type 0} (gives : P → Question → PortAnswer → P → Type 0) (now : ℕ) (x : Step) (s t : SessionState) (same : t ≡ s) (p : P)
    (j : Bool → Result Question Reply) (is : (refused : Bool) → first_move_by now t x refused ≡ first_move_of t (j refused)) where
  by_mark : (refused : Bool) (reply : Reply) → j refused ≡ Err reply → IsStepTaken gives now t p x reply t p
  by_mark true reply e = record { mark = NoOwn; takes = rw (is true ∙ ap (first_move_of t) e) (refl, refl, refl) }
  by_mark false reply e = record { mark = Ample; takes = rw (is false ∙ ap (first_move_of t) e) (refl, refl, refl) }

  -- it answers by itself
  pub answers : (reply : Reply) (decided : (refused : Bool) × (j refused ≡ Err reply)) (s' : SessionState) → s' ≡ s
      → IsStepTaken gives now s p x reply s' p
  answers reply decided s' left = rw (left, ← same) (by_mark decided.0 reply decided.1)

  -- it asks, and goes on from what it is given
  pub asks : (q : Question) → j false ≡ Ok q → (given : PortAnswer) (p' : P) → gives p q given p' → (reply : Reply) (s' : SessionState)
      → (reply, s') ≡ reply_and_session t x given → IsStepTaken gives now s p x reply s' p'
  asks q e given p' g reply s' a = rw (← same) (record { mark = Ample; takes = rw (is false ∙ ap (first_move_of t) e) (given, g, a) })

  -- likewise, by what an answer leaves of the fids
  pub leads : (q : Question) → j false ≡ Ok q → (answer : Answer) (p' : P) → gives p q (CallAnswer answer) p'
      → (reply : Reply) (fids : FidMap) (left : Reply × FidMap) → (reply, fids) ≡ left
      → reply_and_session t x (CallAnswer answer) ≡ with_fids_left t left → (s' : SessionState) → s' ≡ with_fids fids t
      → IsStepTaken gives now s p x reply s' p'
  leads q e answer p' g reply fids left a goes s' leaves_them =
      asks q e (CallAnswer answer) p' g reply s' (rw leaves_them (ap (with_fids_left t) a ∙ sym goes))

-- a step of the table asks nothing
pub table_taken : {P : Type 0} (gives : P → Question → PortAnswer → P → Type 0) (now : ℕ) (s s' : SessionState) (p : P) (x : TableStep)
    (reply : Reply) → (reply, s') ≡ table_stepped s x → IsStepTaken gives now s p (Table x) reply s' p
table_taken gives now s s' p x reply is = record { mark = Ample; takes = (ap (λ o. o.0) is, ap (λ o. o.1) is, refl) }

-- a reply, and the fids that are left
pub both : (reply reply' : Reply) (fids fids' : FidMap) → reply ≡ reply' → fids ≡ fids'
    → ◌≡◌ {A = Reply × FidMap} (reply, fids) (reply', fids')
both reply reply' fids fids' e f = λ i. (e i, f i)

-- a call, by what was decided
module _ {P : Type 0} (gives : P → Question → PortAnswer → P → Type 0) (now : ℕ) (message : CallMessage) (s t : SessionState) (same : t ≡ s)
    (p : P) (awaits : Bool) (is : awaits ≡ is_some t.awaited) where
  fronts : (refused : Bool)
      → first_move_by now t (CallStep message) refused ≡ first_move_of t (call_decision now awaits t.msize t.fids message refused)
  fronts refused = ap (λ b. first_move_of t (call_decision now b t.msize t.fids message refused)) (sym is)

  pub refuses : (reply : Reply) (decided : (refused : Bool) × (call_decision now awaits t.msize t.fids message refused ≡ Err reply))
      (s' : SessionState) → s' ≡ s → IsStepTaken gives now s p (CallStep message) reply s' p
  refuses = answers gives now (CallStep message) s t same p (call_decision now awaits t.msize t.fids message) fronts

  pub calls : (q : Question) → call_decision now awaits t.msize t.fids message false ≡ Ok q → (answer : Answer) (p' : P)
      → gives p q (CallAnswer answer) p'
      → (reply : Reply) (fids : FidMap) → (reply, fids) ≡ call_after t.fids message answer → (s' : SessionState) → s' ≡ with_fids fids t
      → IsStepTaken gives now s p (CallStep message) reply s' p'
  calls q e answer p' g reply fids a =
      leads gives now (CallStep message) s t same p (call_decision now awaits t.msize t.fids message) fronts q e answer p' g reply fids _ a
      refl

-- a granted pass, by what its answer leaves of the fids
pub attached : (t : SessionState) (fid run : ℕ) (call : AttachCall) → t.awaited ≡ Some (record {
  fid = fid;
  run = run;
  call = call;
}) → (user : Option (List ℕ)) → user ≡ user_in call.user → (given : Result (ℕ × Answer) PassFault) (pass : ℕ) (answer : Answer)
    → given ≡ Ok (pass, answer)
    → (reply : Reply) (fids : FidMap) → (reply, fids) ≡ attach_settled t.fids fid run user pass answer → (s' : SessionState)
    → s' ≡ with_fids fids (with_awaited None t) → (reply, s') ≡ attach_after t t.awaited (AttachAnswer given)
attached t fid run call is user u given pass answer o reply fids a s' left =
    rw (left, is, o, ← u) (ap (with_fids_left (with_awaited None t)) a)
