-- No message but a hang-up is answered by the reply of a find or of the end of a connection.
use Rattle.std.proofs.Common.{◌≡◌, ◌≢◌, ℕ, Bool, true, false, [], ◌∷◌, List, Option, None, Some, Result, Ok, Err, refl, sym, ap, subst, ◌∙◌}
use Rattle.std.specs.Prelude.{is_some, is_none, if◌then◌else◌, nat_lt}
use Rattle.cs_names.specs.declared.rule_id.RuleId.{RuleId}
use Rattle.cs_names.specs.declared.rule_id.RuleId.TheVariants.{S1, S4, S5}
use Rattle.cs_names.specs.declared.limits.TheConstants.{LEAST_MESSAGE_SIZE}
use Rattle.cs_fids.specs.declared.entry.FidEntry.{FidEntry}
use Rattle.cs_fids.specs.declared.entry.FidEntry.TheVariants as entry
use Rattle.cs_fids.specs.Tables.{FidMap, least_open}
use Rattle.cs_permit.specs.Refusals.{first_failing}
use Rattle.cs_permit.specs.Table.{attach_table_rules}
use Rattle.cs_permit.specs.declared.fault.FindFault.TheVariants as f
use Rattle.cs_permit.specs.declared.fault.PassFault.TheVariants as pf
use Rattle.cs_run.specs.declared.answer.Answer.{Answer}
use Rattle.cs_run.specs.declared.answer.Answer.TheVariants as a
use Rattle.cs_wire.specs.declared.message.TBody.{TBody}
use Rattle.cs_wire.specs.declared.message.TBody.TheVariants as body
use Rattle.cs_session.specs.declared.message.CallMessage.{CallMessage}
use Rattle.cs_session.specs.declared.message.CallMessage.TheVariants as call
use Rattle.cs_session.specs.declared.message.AttachMessage.{AttachMessage}
use Rattle.cs_session.specs.declared.message.Message.{Message}
use Rattle.cs_session.specs.declared.message.Message.TheVariants as m
use Rattle.cs_session.specs.declared.message.TableStep.TheVariants as t
use Rattle.cs_session.specs.declared.reply.Reply.{Reply}
use Rattle.cs_session.specs.declared.reply.Reply.TheVariants as r
use Rattle.cs_session.specs.Attaches.{attach_after, attach_decision, attach_settled, find_after, find_decision, find_question}
use Rattle.cs_session.specs.Calls.{call_after, call_decision, call_question, call_rules, wants_memory}
use Rattle.cs_session.specs.Decisions.{after_session, decide}
use Rattle.cs_session.specs.Marks.{OwnMark, refuses_own}
use Rattle.cs_session.specs.Messages.{Answers, IfElse, close_or, clunk_or, find_or, goes_on, next_step}
use Rattle.cs_session.specs.Names.{user_in}
use Rattle.cs_session.specs.Questions.{Question, PortAnswer, FindAnswer, AttachAnswer, CallAnswer}
use Rattle.cs_session.specs.Receiving.{IsOnWire, message_in}
use Rattle.cs_session.specs.Removes.{close_decision, close_question, close_reply}
use Rattle.cs_session.specs.Sessions.{Awaited, SessionState, entry_at}
use Rattle.cs_session.specs.Steps.{Continues, Step, AttachStep, CallStep, CloseStep, FindStep, TakesWithMark, first_move_of}
use Rattle.cs_session.specs.Steps.{reply_and_session}
use Rattle.cs_session.specs.TableSteps.{after_change, after_clunk, clunk_reply, clunk_rules, table_stepped}
use Rattle.cs_session.specs.Versions.{after_version, agreed_size, is_spoken}

-- ---- replies

decided : (o : Option RuleId) (refused : Bool) (q : Option Question) (reply : Reply) → decide o refused q ≡ Err reply → IsOnWire reply
decided (Some rule) refused q reply e = let is : r.Error rule ≡ reply = cc in subst IsOnWire is tt
decided None true q reply e = let is : r.Memory ≡ reply = cc in subst IsOnWire is tt
decided None false None reply e = let is : r.Error S5 ≡ reply = cc in subst IsOnWire is tt
decided None false (Some q) reply e = absurd (cc)

called : (fids : FidMap) (message : CallMessage) (answer : Answer) → IsOnWire (call_after fids message answer).0
called fids (call.Walk x) (a.Walked way) = tt
called fids (call.Walk x) (a.Denied rule) = tt
called fids (call.Walk x) answer = tt
called fids (call.Open x) (a.Opened qid open_number number) = tt
called fids (call.Open x) (a.Denied rule) = tt
called fids (call.Open x) answer = tt
called fids (call.Create x) (a.Opened qid open_number number) = tt
called fids (call.Create x) (a.Denied rule) = tt
called fids (call.Create x) answer = tt
called fids (call.Read x) (a.Data d) = tt
called fids (call.Read x) (a.Denied rule) = tt
called fids (call.Read x) answer = tt
called fids (call.Write x) (a.Written count) = tt
called fids (call.Write x) (a.Denied rule) = tt
called fids (call.Write x) answer = tt
called fids (call.Remove x) a.Removed = tt
called fids (call.Remove x) (a.Denied rule) = tt
called fids (call.Remove x) answer = tt
called fids (call.Stat x) (a.Stat stat) = tt
called fids (call.Stat x) (a.Denied rule) = tt
called fids (call.Stat x) answer = tt
called fids (call.Wstat x) a.Changed = tt
called fids (call.Wstat x) (a.Denied rule) = tt
called fids (call.Wstat x) answer = tt

closed : (answer : Answer) → IsOnWire (close_reply answer)
closed a.Closed = tt
closed (a.Denied rule) = tt
closed answer = tt

settled : (fids : FidMap) (fid run : ℕ) (user : Option (List ℕ)) (pass : ℕ) (answer : Answer)
    → IsOnWire (attach_settled fids fid run user pass answer).0
settled fids fid run None pass (a.Attached qid) = tt
settled fids fid run (Some user) pass (a.Attached qid) = tt
settled fids fid run user pass (a.Denied rule) = tt
settled fids fid run user pass answer = tt

found : (s : SessionState) (x : AttachMessage) (given : PortAnswer) → (find_after s x given).0 ≢ r.Found → IsOnWire (find_after s x given).0
found s x (FindAnswer (Ok place)) h = absurd (h refl)
found s x (FindAnswer (Err f.Unpublished)) h = tt
found s x (FindAnswer (Err f.Full)) h = tt
found s x (FindAnswer (Err f.Memory)) h = tt
found s x (AttachAnswer given) h = tt
found s x (CallAnswer answer) h = tt

attached : (s : SessionState) (o : Option Awaited) (given : PortAnswer) → IsOnWire (attach_after s o given).0
attached s None given = tt
attached s (Some awaited) (AttachAnswer (Ok pass)) = settled s.fids awaited.fid awaited.run (user_in awaited.call.user) pass.0 pass.1
attached s (Some awaited) (AttachAnswer (Err pf.Room)) = tt
attached s (Some awaited) (AttachAnswer (Err pf.Foreign)) = tt
attached s (Some awaited) (AttachAnswer (Err pf.Memory)) = tt
attached s (Some awaited) (FindAnswer given) = tt
attached s (Some awaited) (CallAnswer answer) = tt

attach_decided : (now : ℕ) (o : Option Awaited) (reply : Reply) → attach_decision now o ≡ Err reply → IsOnWire reply
attach_decided now None reply e = let is : r.Error S5 ≡ reply = cc in subst IsOnWire is tt
attach_decided now (Some awaited) reply e = absurd (cc)

call_given : (s : SessionState) (x : CallMessage) (given : PortAnswer) → IsOnWire (reply_and_session s (CallStep x) given).0
call_given s x (CallAnswer answer) = called s.fids x answer
call_given s x (FindAnswer given) = tt
call_given s x (AttachAnswer given) = tt

close_given : (s : SessionState) (fid : ℕ) (given : PortAnswer) → IsOnWire (reply_and_session s (CloseStep fid) given).0
close_given s fid (CallAnswer answer) = closed answer
close_given s fid (FindAnswer given) = tt
close_given s fid (AttachAnswer given) = tt

not_going : (x : AttachMessage) (reply : Reply) → reply ≡ r.Found → goes_on (m.Attach x) (FindStep x) reply ≡ false → ⊥
not_going x reply e f = let goes : goes_on (m.Attach x) (FindStep x) r.Found ≡ false = rw e at f in absurd (cc)

picked : (b : Bool) (x y : Reply × SessionState) → IsOnWire x.0 → IsOnWire y.0 → IsOnWire (if b then x else y).0
picked true x y h k = h
picked false x y h k = k

picked_reply : (b : Bool) (x y : Reply) → IsOnWire x → IsOnWire y → IsOnWire (if b then x else y)
picked_reply true x y h k = h
picked_reply false x y h k = k

clunked : (o : Option RuleId) → IsOnWire (clunk_reply o)
clunked None = tt
clunked (Some rule) = tt

clunk_on_wire : (s : SessionState) (fid : ℕ) → IsOnWire (table_stepped s (t.Clunk fid)).0
clunk_on_wire s fid =
    picked (is_some s.awaited) (r.Error S5, s) (after_change s (t.Clunk fid)) tt
    (picked (is_none s.msize) (r.Error S1, s) (after_clunk s fid) tt (clunked (first_failing (clunk_rules s.fids fid))))

version_on_wire : (s : SessionState) (msize : ℕ) (version : List ℕ) → IsOnWire (table_stepped s (t.Version msize version)).0
version_on_wire s msize version =
    picked (is_some s.awaited) (r.Error S5, s) (after_change s (t.Version msize version)) tt
    (picked (is_some (least_open s.fids)) (r.Error S5, s) (after_version msize version) tt
    (picked_reply (nat_lt msize LEAST_MESSAGE_SIZE) (r.Error S4) (r.Version (agreed_size msize) (is_spoken version)) tt tt))

-- ---- steps

module _ {P : Type 0} (gives : P → Question → PortAnswer → P → Type 0) (now : ℕ) (s : SessionState) (p : P) (reply : Reply)
    (s' : SessionState) (p' : P) where
  -- what is decided, and what an answer leads to
  continued : (x : Step) (j : Result Question Reply) → ((own : Reply) → j ≡ Err own → IsOnWire own)
      → ((given : PortAnswer) → reply ≡ (reply_and_session s x given).0 → IsOnWire reply)
      → Continues gives (first_move_of s j) s p x reply s' p' → IsOnWire reply
  continued x (Err own) by_rules by_answer c = subst IsOnWire (sym c.0) (by_rules own refl)
  continued x (Ok q) by_rules by_answer c = by_answer c.0 (ap (λ o. o.0) c.2)

  find_on_wire : (x : AttachMessage) (mark : OwnMark) → TakesWithMark gives now s p (FindStep x) mark reply s' p' → reply ≢ r.Found
      → IsOnWire reply
  find_on_wire x mark takes h =
      continued (FindStep x) (find_decision (is_some s.awaited) s.msize s.fids x (refuses_own mark))
      (decided (first_failing (after_session (is_some s.awaited) s.msize (attach_table_rules s.fids x.fid x.afid x.aname)))
      (refuses_own mark) (find_question x))
      (λ given is. subst IsOnWire (sym is) (found s x given (λ e. h (is ∙ e)))) takes

  attach_on_wire : (mark : OwnMark) → TakesWithMark gives now s p AttachStep mark reply s' p' → IsOnWire reply
  attach_on_wire mark takes =
      continued AttachStep (attach_decision now s.awaited) (attach_decided now s.awaited)
      (λ given is. subst IsOnWire (sym is) (attached s s.awaited given)) takes

  call_on_wire : (x : CallMessage) (mark : OwnMark) → TakesWithMark gives now s p (CallStep x) mark reply s' p' → IsOnWire reply
  call_on_wire x mark takes =
      continued (CallStep x) (call_decision now (is_some s.awaited) s.msize s.fids x (refuses_own mark))
      (decided (first_failing (after_session (is_some s.awaited) s.msize (call_rules s.fids x)))
      (wants_memory s.fids x (refuses_own mark)) (call_question now s.msize s.fids x))
      (λ given is. subst IsOnWire (sym is) (call_given s x given)) takes

  close_on_wire : (fid : ℕ) (mark : OwnMark) → TakesWithMark gives now s p (CloseStep fid) mark reply s' p' → IsOnWire reply
  close_on_wire fid mark takes =
      continued (CloseStep fid) (close_decision now (is_some s.awaited) s.fids fid)
      (decided (first_failing ((S5, is_some s.awaited) ∷ [])) false (close_question now s.fids fid))
      (λ given is. subst IsOnWire (sym is) (close_given s fid given)) takes

  attach_or_find : (x : AttachMessage) (o : Option Awaited) (mark : OwnMark)
      → TakesWithMark gives now s p (find_or o x) mark reply s' p' → goes_on (m.Attach x) (find_or o x) reply ≡ false → IsOnWire reply
  attach_or_find x None mark takes f = find_on_wire x mark takes (λ e. absurd (not_going x reply e f))
  attach_or_find x (Some awaited) mark takes f = attach_on_wire mark takes

  clunk_or_close : (fid : ℕ) (o : Option FidEntry) (mark : OwnMark)
      → TakesWithMark gives now s p (clunk_or fid o) mark reply s' p' → IsOnWire reply
  clunk_or_close fid None mark takes = subst IsOnWire (sym takes.0) (clunk_on_wire s fid)
  clunk_or_close fid (Some (entry.Walked x)) mark takes = subst IsOnWire (sym takes.0) (clunk_on_wire s fid)
  clunk_or_close fid (Some (entry.Opened x)) mark takes = close_on_wire fid mark takes

  version_or_close : (msize : ℕ) (version : List ℕ) (o : Option ℕ) (mark : OwnMark)
      → TakesWithMark gives now s p (close_or o (t.Version msize version)) mark reply s' p'
      → goes_on (m.Version msize version) (close_or o (t.Version msize version)) reply ≡ false → IsOnWire reply
  version_or_close msize version None mark takes f = subst IsOnWire (sym takes.0) (version_on_wire s msize version)
  version_or_close msize version (Some fid) mark takes f = absurd (cc)

  -- the last step of a message
  last_on_wire : (message : Message) → message ≢ m.HangUp → (mark : OwnMark)
      → TakesWithMark gives now s p (next_step message s) mark reply s' p' → goes_on message (next_step message s) reply ≡ false
      → IsOnWire reply
  last_on_wire (m.Version msize version) h mark takes f = version_or_close msize version (least_open s.fids) mark takes f
  last_on_wire (m.Attach x) h mark takes f = attach_or_find x s.awaited mark takes f
  last_on_wire (m.Call x) h mark takes f = call_on_wire x mark takes
  last_on_wire (m.Clunk fid) h mark takes f = clunk_or_close fid (entry_at s fid) mark takes
  last_on_wire m.HangUp h mark takes f = absurd (h refl)

-- ---- messages

either : (b : Bool) (A B C : Type 0) → IfElse b A B → (b ≡ true → A → C) → (b ≡ false → B → C) → C
either true A B C x f g = f refl x
either false A B C x f g = g refl x

module _ {P : Type 0} (gives : P → Question → PortAnswer → P → Type 0) (now : ℕ) (message : Message) (asks : message ≢ m.HangUp) where
  pub on_wire : (marks : List OwnMark) (s : SessionState) (p : P) (reply : Reply) (s' : SessionState) (p' : P)
      → Answers gives now message marks s p reply s' p' → IsOnWire reply
  on_wire [] s p reply s' p' answered = absurd answered
  on_wire (mark ∷ marks) s p reply s' p' (step_reply, mid, there, takes, e) =
      either (goes_on message (next_step message s) step_reply) _ _ (IsOnWire reply) e
      (λ more rest. on_wire marks mid there reply s' p' rest)
      (λ last done. subst IsOnWire (sym done.1) (last_on_wire gives now s p step_reply mid there message asks mark takes last))

-- bytes spell no hang-up
hung : (b : TBody) → message_in b ≡ Ok m.HangUp → ⊥
hung (body.Version msize version) e = absurd (cc)
hung (body.Auth afid uname aname) e = absurd (cc)
hung (body.Attach fid afid uname aname) e = absurd (cc)
hung (body.Flush oldtag) e = absurd (cc)
hung (body.Walk fid newfid wname) e = absurd (cc)
hung (body.Open fid mode) e = absurd (cc)
hung (body.Create fid name perm mode) e = absurd (cc)
hung (body.Read fid offset count) e = absurd (cc)
hung (body.Write fid offset bytes) e = absurd (cc)
hung (body.Clunk fid) e = absurd (cc)
hung (body.Remove fid) e = absurd (cc)
hung (body.Stat fid) e = absurd (cc)
hung (body.Wstat fid stat) e = absurd (cc)

pub no_hang_up : (b : TBody) (x : Message) → message_in b ≡ Ok x → x ≢ m.HangUp
no_hang_up b x e h = hung b (e ∙ ap Ok h)
