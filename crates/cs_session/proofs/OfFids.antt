-- A call that a connection makes is for one of its fids.
use Rattle.std.proofs.Common.{◌≡◌, ℕ, Bool, true, false, List, [], ◌∷◌, Option, None, Some, Err, refl, ap, subst}
use Rattle.std.specs.Prelude.{IfSome, Result, Ok, is_some, option_and_then, option_map}
use Rattle.std.specs.FinMap.{get}
use Rattle.cs_fids.specs.Entries.{as_opened, as_walked, number_of, pass_of, run_of, user_of}
use Rattle.cs_fids.specs.FidOf.{FidOf}
use Rattle.cs_fids.specs.declared.entry.FidEntry.{FidEntry}
use Rattle.cs_fids.specs.declared.entry.FidEntry.TheVariants as entry
use Rattle.cs_fids.specs.declared.fid.Opened.{Opened}
use Rattle.cs_fids.specs.declared.fid.Walked.{Walked}
use Rattle.cs_names.specs.declared.rule_id.RuleId.{RuleId}
use Rattle.cs_names.specs.declared.rule_id.RuleId.TheVariants.{S5}
use Rattle.cs_permit.specs.Refusals.{first_failing}
use Rattle.cs_permit.specs.Table.{attach_table_rules}
use Rattle.cs_permit.specs.TreeNames.{tree_name_in}
use Rattle.cs_permit.specs.declared.call.Call.{Call}
use Rattle.cs_permit.specs.declared.call.Call.TheVariants as c
use Rattle.cs_session.specs.Attaches.{attach_decision, find_decision, find_question}
use Rattle.cs_session.specs.Calls.{call_decision, call_question, call_rules, wants_memory}
use Rattle.cs_session.specs.Decisions.{after_session, decide, opened_at, walked_at}
use Rattle.cs_session.specs.Names.{file_in}
use Rattle.cs_session.specs.OfFids.{IsForFid, file_named, open_named, open_of, user_named}
use Rattle.cs_session.specs.Opens.{create_named}
use Rattle.cs_session.specs.Questions.{Question, CallOn, FindRun}
use Rattle.cs_session.specs.Reads.{read_count}
use Rattle.cs_session.specs.Removes.{close_decision, close_question}
use Rattle.cs_session.specs.Sessions.{Awaited, SessionState, entry_at}
use Rattle.cs_session.specs.Steps.{Step, FindStep, AttachStep, CallStep, CloseStep, Table, Asks, first_move_by, first_move_of}
use Rattle.cs_session.specs.declared.message.CallMessage.{CallMessage}
use Rattle.cs_session.specs.declared.message.CallMessage.TheVariants.{Walk, Open, Create, Read, Write, Remove, Stat, Wstat}
use Rattle.cs_session.specs.declared.reply.Reply.{Reply}

-- ---- what is asked is the question

asked : (session : SessionState) (r : Result Question Reply) (q : Question) → first_move_of session r ≡ Asks q → r ≡ Ok q
asked session (Err reply) q asks = absurd cc
asked session (Ok x) q asks = let same : x ≡ q = cc in ap (λ (y : Question). Ok y) same

decided : (rule : Option RuleId) (refused : Bool) (o : Option Question) (q : Question) → decide rule refused o ≡ Ok q → o ≡ Some q
decided (Some rule) refused o q is = absurd cc
decided None true o q is = absurd cc
decided None false None q is = absurd cc
decided None false (Some x) q is = let same : x ≡ q = cc in ap (λ (y : Question). Some y) same

mapped : {A : Type 0} (f : A → Question) (o : Option A) (q : Question) → option_map f o ≡ Some q → (x : A) × (o ≡ Some x) × (f x ≡ q)
mapped f None q is = absurd cc
mapped f (Some x) q is = (x, refl, cc)

chained : {A : Type 0} (f : A → Option Question) (o : Option A) (q : Question) → option_and_then f o ≡ Some q → (x : A) × (f x ≡ Some q)
chained f None q is = absurd cc
chained f (Some x) q is = (x, is)

walked_entry : (o : Option FidEntry) (f : FidOf Walked) → option_and_then as_walked o ≡ Some f → o ≡ Some (entry.Walked f)
walked_entry None f is = absurd cc
walked_entry (Some (entry.Opened g)) f is = absurd cc
walked_entry (Some (entry.Walked g)) f is = let same : g ≡ f = cc in ap (λ (h : FidOf Walked). Some (entry.Walked h)) same

opened_entry : (o : Option FidEntry) (f : FidOf Opened) → option_and_then as_opened o ≡ Some f → o ≡ Some (entry.Opened f)
opened_entry None f is = absurd cc
opened_entry (Some (entry.Walked g)) f is = absurd cc
opened_entry (Some (entry.Opened g)) f is = let same : g ≡ f = cc in ap (λ (h : FidOf Opened). Some (entry.Opened h)) same

-- ---- the fid

module _ (now : ℕ) (session : SessionState) (moment place pass : ℕ) (call : Call) where
  -- a call of that fid is the call that is asked for
  built : (fid : ℕ) (e : FidEntry) (own : Call) → entry_at session fid ≡ Some e
      → IfSome (file_named own) (λ number. number ≡ number_of e)
      → IfSome (user_named own) (λ user. user ≡ user_of e)
      → IfSome (open_named own) (λ number. open_of e ≡ Some number)
      → CallOn now (run_of e) (pass_of e) own ≡ CallOn moment place pass call
      → IsForFid session now moment place pass call
  built fid e own there file user opens is =
      let same : own ≡ call = cc in
      let m : moment ≡ now = cc in
      let r : place ≡ run_of e = cc in
      let p : pass ≡ pass_of e = cc in
      record {
        fid = fid;
        entry = e;
        there = there;
        moment_is = m;
        run_is = r;
        pass_is = p;
        file_is = subst (λ (x : Call). IfSome (file_named x) (λ number. number ≡ number_of e)) same file;
        user_is = subst (λ (x : Call). IfSome (user_named x) (λ user. user ≡ user_of e)) same user;
        open_is = subst (λ (x : Call). IfSome (open_named x) (λ number. open_of e ≡ Some number)) same opens;
      }

  of_walked : (fid : ℕ) (make : FidOf Walked → Call)
      → ((f : FidOf Walked) → IfSome (file_named (make f)) (λ number. number ≡ f.number))
      → ((f : FidOf Walked) → IfSome (user_named (make f)) (λ user. user ≡ f.user))
      → ((f : FidOf Walked) → IfSome (open_named (make f)) (λ number. open_of (entry.Walked f) ≡ Some number))
      → option_map (λ f. CallOn now f.run f.pass (make f)) (walked_at session.fids fid) ≡ Some (CallOn moment place pass call)
      → IsForFid session now moment place pass call
  of_walked fid make file user opens is =
      let m = mapped (λ f. CallOn now f.run f.pass (make f)) (walked_at session.fids fid) (CallOn moment place pass call) is in
      built fid (entry.Walked m.0) (make m.0) (walked_entry (get session.fids fid) m.0 m.1) (file m.0) (user m.0) (opens m.0) m.2

  of_opened : (fid : ℕ) (make : FidOf Opened → Call)
      → ((f : FidOf Opened) → IfSome (file_named (make f)) (λ number. number ≡ f.number))
      → ((f : FidOf Opened) → IfSome (user_named (make f)) (λ user. user ≡ f.user))
      → ((f : FidOf Opened) → IfSome (open_named (make f)) (λ number. open_of (entry.Opened f) ≡ Some number))
      → option_map (λ f. CallOn now f.run f.pass (make f)) (opened_at session.fids fid) ≡ Some (CallOn moment place pass call)
      → IsForFid session now moment place pass call
  of_opened fid make file user opens is =
      let m = mapped (λ f. CallOn now f.run f.pass (make f)) (opened_at session.fids fid) (CallOn moment place pass call) is in
      built fid (entry.Opened m.0) (make m.0) (opened_entry (get session.fids fid) m.0 m.1) (file m.0) (user m.0) (opens m.0) m.2

  of_entry : (fid : ℕ) (make : FidEntry → Call)
      → ((e : FidEntry) → IfSome (file_named (make e)) (λ number. number ≡ number_of e))
      → ((e : FidEntry) → IfSome (user_named (make e)) (λ user. user ≡ user_of e))
      → ((e : FidEntry) → IfSome (open_named (make e)) (λ number. open_of e ≡ Some number))
      → option_map (λ e. CallOn now (run_of e) (pass_of e) (make e)) (get session.fids fid) ≡ Some (CallOn moment place pass call)
      → IsForFid session now moment place pass call
  of_entry fid make file user opens is =
      let m = mapped (λ e. CallOn now (run_of e) (pass_of e) (make e)) (get session.fids fid) (CallOn moment place pass call) is in
      built fid m.0 (make m.0) m.1 (file m.0) (user m.0) (opens m.0) m.2

  own_open : (o : Option ℕ) → IfSome o (λ number. o ≡ Some number)
  own_open None = tt
  own_open (Some number) = refl

  of_call : (message : CallMessage) → call_question now session.msize session.fids message ≡ Some (CallOn moment place pass call)
      → IsForFid session now moment place pass call
  of_call (Walk m) is = of_walked m.fid (λ f. c.Walk (record {
    number = f.number;
    user = f.user;
    names = m.names;
  })) (λ f. refl) (λ f. refl) (λ f. tt) is
  of_call (Open m) is = of_walked m.fid (λ f. c.Open (record {
    number = f.number;
    user = f.user;
    mode = m.mode;
  })) (λ f. refl) (λ f. refl) (λ f. tt) is
  of_call (Create m) is =
      let n = chained (create_named now session.fids m) (file_in m.name) (CallOn moment place pass call) is in
      of_walked m.fid (λ f. c.Create (record {
        number = f.number;
        user = f.user;
        name = n.0;
        perm = m.perm;
        mode = m.mode;
      })) (λ f. refl) (λ f. refl) (λ f. tt) n.1
  of_call (Read m) is = of_opened m.fid (λ f. c.Read (record {
    number = f.number;
    offset = m.offset;
    count = read_count session.msize m.count;
    place = f.state.place;
  })) (λ f. refl) (λ f. tt) (λ f. tt) is
  of_call (Write m) is = of_opened m.fid (λ f. c.Write (record {
    number = f.number;
    user = f.user;
    offset = m.offset;
    bytes = m.bytes;
  })) (λ f. refl) (λ f. refl) (λ f. tt) is
  of_call (Remove fid) is =
      of_entry fid (λ e. c.Remove (record {
        number = number_of e;
        user = user_of e;
        open_number = open_of e;
      })) (λ e. refl) (λ e. refl) (λ e. own_open (open_of e)) is
  of_call (Stat fid) is = of_entry fid (λ e. c.Stat (record { number = number_of e })) (λ e. refl) (λ e. tt) (λ e. tt) is
  of_call (Wstat m) is = of_entry m.fid (λ e. c.Wstat (record {
    number = number_of e;
    user = user_of e;
    stat = m.stat;
  })) (λ e. refl) (λ e. refl) (λ e. tt) is

  of_find : (o : Option (List ℕ × List ℕ)) → option_map (λ name. FindRun name.0 name.1) o ≡ Some (CallOn moment place pass call)
      → IsForFid session now moment place pass call
  of_find None is = absurd cc
  of_find (Some name) is = absurd cc

  of_attach : (o : Option Awaited) → attach_decision now o ≡ Ok (CallOn moment place pass call)
      → IsForFid session now moment place pass call
  of_attach None is = absurd cc
  of_attach (Some awaited) is = absurd cc

  of_step : (step : Step) (refused : Bool) → first_move_by now session step refused ≡ Asks (CallOn moment place pass call)
      → IsForFid session now moment place pass call
  of_step (FindStep m) refused asks =
      of_find (tree_name_in m.aname)
      (decided (first_failing
      (after_session (is_some session.awaited) session.msize (attach_table_rules session.fids m.fid m.afid m.aname))) refused
      (find_question m) (CallOn moment place pass call)
      (asked session (find_decision (is_some session.awaited) session.msize session.fids m refused) (CallOn moment place pass call) asks))
  of_step AttachStep refused asks =
      of_attach session.awaited (asked session (attach_decision now session.awaited) (CallOn moment place pass call) asks)
  of_step (CallStep m) refused asks =
      of_call m
      (decided (first_failing (after_session (is_some session.awaited) session.msize (call_rules session.fids m)))
      (wants_memory session.fids m refused) (call_question now session.msize session.fids m) (CallOn moment place pass call)
      (asked session (call_decision now (is_some session.awaited) session.msize session.fids m refused) (CallOn moment place pass call)
      asks))
  of_step (CloseStep fid) refused asks =
      of_opened fid (λ f. c.Close (record { open_number = f.state.open_number; user = f.user })) (λ f. tt) (λ f. refl) (λ f. refl)
      (decided (first_failing ((S5, is_some session.awaited) ∷ [])) false (close_question now session.fids fid)
      (CallOn moment place pass call)
      (asked session (close_decision now (is_some session.awaited) session.fids fid) (CallOn moment place pass call) asks))
  of_step (Table change) refused asks = absurd cc

pub for_fid : (now : ℕ) (session : SessionState) (step : Step) (refused : Bool) (moment place pass : ℕ) (call : Call)
    → first_move_by now session step refused ≡ Asks (CallOn moment place pass call) → IsForFid session now moment place pass call
for_fid now session step refused moment place pass call asks = of_step now session moment place pass call step refused asks
