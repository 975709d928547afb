-- A connection whose runs are at other places does and leaves the same, except for the places.
use Rattle.std.proofs.Common.{◌≡◌, ◌∙◌, ℕ, ◌&&◌, Bool, true, false, cond, List, [], ◌∷◌, Option, None, Some, Ok, Err, refl, sym, ap}
use Rattle.std.specs.Prelude.{is_none, is_some, option_and_then}
use Rattle.std.specs.Option.{option_map, option_map_or}
use Rattle.std.specs.FinMap.{get}
use Rattle.cs_fids.specs.declared.entry.FidEntry.{FidEntry}
use Rattle.cs_fids.specs.declared.entry.FidEntry.TheVariants as entry
use Rattle.cs_fids.specs.declared.fid.Opened.{Opened}
use Rattle.cs_fids.specs.declared.fid.Walked.{Walked}
use Rattle.cs_fids.specs.declared.place.Place.{Place}
use Rattle.cs_fids.specs.Entries.{as_opened, number_of, user_of}
use Rattle.cs_fids.specs.FidOf.{FidOf}
use Rattle.cs_fids.specs.Fids.{moved_to, opened_fid, walked_fid, with_place}
use Rattle.cs_fids.specs.Tables.{FidMap, least_open}
use Rattle.cs_names.specs.declared.rule_id.RuleId.{RuleId}
use Rattle.cs_names.specs.declared.rule_id.RuleId.TheVariants.{M1, N1, H1, Q1, S1, S5}
use Rattle.cs_permit.specs.declared.call.Call.TheVariants as c
use Rattle.cs_permit.specs.Refusals.{Check, first_failing}
use Rattle.cs_permit.specs.TreeNames.{tree_name_in}
use Rattle.cs_run.specs.declared.answer.Answer.{Answer}
use Rattle.cs_run.specs.declared.answer.Answer.TheVariants as a
use Rattle.cs_run.specs.Walks.{WalkResult}
use Rattle.cs_session.specs.declared.message.CallMessage.{CallMessage}
use Rattle.cs_session.specs.declared.message.CallMessage.TheVariants as m
use Rattle.cs_session.specs.declared.message.CreateMessage.{CreateMessage}
use Rattle.cs_session.specs.declared.message.TableStep.{TableStep}
use Rattle.cs_session.specs.declared.message.TableStep.TheVariants as t
use Rattle.cs_session.specs.declared.reply.Reply.{Reply}
use Rattle.cs_session.specs.declared.reply.Reply.TheVariants as r
use Rattle.cs_session.specs.Attaches.{attach_after, attach_decision, attach_settled}
use Rattle.cs_session.specs.Calls.{call_after}
use Rattle.cs_session.specs.Removes.{close_question, close_reply, remove_reply}
use Rattle.cs_session.specs.Decisions.{after_session, decide, opened_at, walked_at}
use Rattle.cs_session.specs.Names.{file_in, user_in}
use Rattle.cs_session.specs.Opens.{create_after, create_named, open_after, open_left}
use Rattle.cs_session.specs.Questions.{Question, FindRun, PortAnswer, FindAnswer, AttachAnswer, CallAnswer}
use Rattle.cs_session.specs.Reads.{copies_name, read_count, read_after, read_left}
use Rattle.cs_session.specs.Sessions.{Awaited, SessionState, empty_session, with_fids}
use Rattle.cs_session.specs.Steps.{Step, FindStep, AttachStep, CallStep, CloseStep, Table, reply_and_session, done_with, first_move_by}
use Rattle.cs_session.specs.Steps.{first_move_of}
use Rattle.cs_session.specs.TableSteps.{clunk_left, clunk_reply, after_clunk, table_stepped, after_change}
use Rattle.cs_session.specs.Versions.{after_version}
use Rattle.cs_session.specs.Walks.{walk_after, walk_left}
use Rattle.cs_world.specs.Places.{awaited_with_places, entry_with_places, fid_with_places, fids_with_places, with_places}
use Rattle.cs_world.proofs.Moved.{attach_rules, blank_moved, create_rules, get_moved, insert_moved, least_moved, moved_front, moved_left}
use Rattle.cs_world.proofs.Moved.{moved_question, moved_reply, moved_told, number_same, of_entry, of_opened, of_walked, open_rules}
use Rattle.cs_world.proofs.Moved.{open_same, opened_moved, read_rules, remove_moved, some_by, unknown, user_same, walk_rules, walked_moved}
use Rattle.cs_world.proofs.Moved.{write_rules}

module _ (f : ℕ → ℕ) where
  -- ---- what a step does first

  judged_moved : (s : SessionState) (o : Option RuleId) (refused : Bool) (q : Option Question)
      → first_move_of (with_places f s) (decide o refused (option_map (moved_question f) q))
      ≡ moved_front f (first_move_of s (decide o refused q))
  judged_moved s (Some rule) refused q = refl
  judged_moved s None true q = refl
  judged_moved s None false None = refl
  judged_moved s None false (Some q) = refl

  waits : (s : SessionState) → is_some (option_map (awaited_with_places f) s.awaited) ≡ is_some s.awaited
  waits s = some_by f (awaited_with_places f) s.awaited

  -- one law for all: the rules, the growth and the question are the same but for places
  shape : (s : SessionState) (rules' rules : List Check) → rules' ≡ rules → (refused' refused : Bool) → refused' ≡ refused
      → (q' q : Option Question) → q' ≡ option_map (moved_question f) q
      → first_move_of (with_places f s)
      (decide (first_failing (after_session (is_some (option_map (awaited_with_places f) s.awaited)) s.msize rules')) refused' q')
      ≡ moved_front f (first_move_of s (decide (first_failing (after_session (is_some s.awaited) s.msize rules)) refused q))
  shape s rules' rules same refused' refused as_much q' q asked =
      (λ i. first_move_of (with_places f s) (decide (first_failing (after_session (waits s i) s.msize (same i))) (as_much i) (asked i)))
      ∙ judged_moved s (first_failing (after_session (is_some s.awaited) s.msize rules)) refused q

  find_same : (o : Option (List ℕ × List ℕ))
      → option_map (λ (name : List ℕ × List ℕ). FindRun name.0 name.1) o
      ≡ option_map (moved_question f) (option_map (λ (name : List ℕ × List ℕ). FindRun name.0 name.1) o)
  find_same None = refl
  find_same (Some name) = refl

  create_asks : (now : ℕ) (fids : FidMap) (x : CreateMessage) (o : Option (List ℕ))
      → option_and_then (create_named now (fids_with_places f fids) x) o
      ≡ option_map (moved_question f) (option_and_then (create_named now fids x) o)
  create_asks now fids x None = refl
  create_asks now fids x (Some name) = of_walked f now fids (λ y. c.Create (record {
    number = y.number;
    user = y.user;
    name = name;
    perm = x.perm;
    mode = x.mode;
  })) (λ y. refl) x.fid

  last_by : (o : Option (FidOf Opened))
      → option_map_or (λ (x : FidOf Opened). is_some x.state.place.last) (option_map (fid_with_places f) o) false
      ≡ option_map_or (λ (x : FidOf Opened). is_some x.state.place.last) o false
  last_by None = refl
  last_by (Some x) = refl

  copies : (fids : FidMap) (k : ℕ) → copies_name (fids_with_places f fids) k ≡ copies_name fids k
  copies fids k =
      ap (λ (o : Option (FidOf Opened)). option_map_or (λ (x : FidOf Opened). is_some x.state.place.last) o false) (opened_moved f fids k) ∙
      last_by (opened_at fids k)

  call_front : (now : ℕ) (s : SessionState) (x : CallMessage) (refused : Bool)
      → first_move_by now (with_places f s) (CallStep x) refused ≡ moved_front f (first_move_by now s (CallStep x) refused)
  call_front now s (m.Walk x) refused =
      shape s _ _ (walk_rules f s.fids x.fid x.newfid) refused refused refl _ _ (of_walked f now s.fids (λ y. c.Walk (record {
        number = y.number;
        user = y.user;
        names = x.names;
      })) (λ y. refl) x.fid)
  call_front now s (m.Open x) refused =
      shape s _ _ (open_rules f s.fids x.fid x.mode) refused refused refl _ _ (of_walked f now s.fids (λ y. c.Open (record {
        number = y.number;
        user = y.user;
        mode = x.mode;
      })) (λ y. refl) x.fid)
  call_front now s (m.Create x) refused =
      shape s _ _ (create_rules f s.fids x.fid x.name x.perm x.mode) refused refused refl _ _ (create_asks now s.fids x (file_in x.name))
  call_front now s (m.Read x) refused =
      shape s _ _ (read_rules f s.fids x.fid) _ _ (λ i. refused && copies s.fids x.fid i) _ _ (of_opened f now s.fids (λ y. c.Read (record {
        number = y.number;
        offset = x.offset;
        count = read_count s.msize x.count;
        place = y.state.place;
      })) (λ y. refl) x.fid)
  call_front now s (m.Write x) refused =
      shape s _ _ (write_rules f s.fids x.fid) refused refused refl _ _ (of_opened f now s.fids (λ y. c.Write (record {
        number = y.number;
        user = y.user;
        offset = x.offset;
        bytes = x.bytes;
      })) (λ y. refl) x.fid)
  call_front now s (m.Remove fid) refused =
      shape s _ _ (λ i. (M1, unknown f s.fids fid i) ∷ []) false false refl _ _
      (of_entry f now s.fids (λ y. c.Remove (record {
        number = number_of y;
        user = user_of y;
        open_number = option_map (λ (z : FidOf Opened). z.state.open_number) (as_opened y);
      })) (λ y i. c.Remove (record { number = number_same f y i; user = user_same f y i; open_number = open_same f y i })) fid)
  call_front now s (m.Stat fid) refused =
      shape s _ _ (λ i. (H1, unknown f s.fids fid i) ∷ []) false false refl _ _ (of_entry f now s.fids (λ y. c.Stat (record {
        number = number_of y;
      })) (λ y i. c.Stat (record { number = number_same f y i })) fid)
  call_front now s (m.Wstat x) refused =
      shape s _ _ (λ i. (Q1, unknown f s.fids x.fid i) ∷ []) refused refused refl _ _
      (of_entry f now s.fids (λ y. c.Wstat (record {
        number = number_of y;
        user = user_of y;
        stat = x.stat;
      })) (λ y i. c.Wstat (record { number = number_same f y i; user = user_same f y i; stat = x.stat })) x.fid)

  attach_front : (now : ℕ) (s : SessionState) (o : Option Awaited)
      → first_move_of (with_places f s) (attach_decision now (option_map (awaited_with_places f) o))
      ≡ moved_front f (first_move_of s (attach_decision now o))
  attach_front now s None = refl
  attach_front now s (Some p) = refl

  close_front : (now : ℕ) (s : SessionState) (fid : ℕ) (refused : Bool)
      → first_move_by now (with_places f s) (CloseStep fid) refused ≡ moved_front f (first_move_by now s (CloseStep fid) refused)
  close_front now s fid refused =
      (λ i. first_move_of (with_places f s)
      (decide (first_failing ((S5, waits s i) ∷ [])) false (of_opened f now s.fids (λ y. c.Close (record {
        open_number = y.state.open_number;
        user = y.user;
      })) (λ y. refl) fid i)))
      ∙ judged_moved s (first_failing ((S5, is_some s.awaited) ∷ [])) false (close_question now s.fids fid)

  -- ---- the steps of the table

  abbrev clunk_failing : Option FidEntry → Option RuleId
  clunk_failing o = first_failing ((N1, is_none o) ∷ (S5, is_some (option_and_then as_opened o)) ∷ [])

  failing_by : (o : Option FidEntry) → clunk_failing (option_map (entry_with_places f) o) ≡ clunk_failing o
  failing_by None = refl
  failing_by (Some (entry.Walked x)) = refl
  failing_by (Some (entry.Opened x)) = refl

  clunk_by : (fids : FidMap) (fid : ℕ) (o : Option RuleId)
      → clunk_left (fids_with_places f fids) fid o ≡ fids_with_places f (clunk_left fids fid o)
  clunk_by fids fid None = sym (remove_moved f fids fid)
  clunk_by fids fid (Some rule) = refl

  clunk_moved : (s : SessionState) (fid : ℕ) → after_clunk (with_places f s) fid ≡ moved_reply f (after_clunk s fid)
  clunk_moved s fid =
      ap (λ (o : Option RuleId). (clunk_reply o, with_fids (clunk_left (fids_with_places f s.fids) fid o) (with_places f s)))
      (ap clunk_failing (get_moved f s.fids fid) ∙ failing_by (get s.fids fid))
      ∙ (λ i.
      (clunk_reply (clunk_failing (get s.fids fid)), with_fids (clunk_by s.fids fid (clunk_failing (get s.fids fid)) i) (with_places f s)))

  cond_moved : (b : Bool) (x' y' x y : Reply × SessionState) → x' ≡ moved_reply f x → y' ≡ moved_reply f y
      → cond b x' y' ≡ moved_reply f (cond b x y)
  cond_moved true x' y' x y e g = e
  cond_moved false x' y' x y e g = g

  tabled_moved : (s : SessionState) (x : TableStep) → after_change (with_places f s) x ≡ moved_reply f (after_change s x)
  tabled_moved s (t.Clunk fid) = cond_moved (is_none s.msize) _ _ (r.Error S1, s) (after_clunk s fid) refl (clunk_moved s fid)
  tabled_moved s (t.Version msize version) =
      ap (λ (o : Option ℕ). cond (is_some o) (r.Error S5, with_places f s) (after_version msize version)) (least_moved f s.fids)
      ∙ cond_moved (is_some (least_open s.fids)) _ _ (r.Error S5, s) (after_version msize version) refl
      (λ i. ((after_version msize version).0, sym (blank_moved f (after_version msize version).1.msize) i))
  tabled_moved s t.HangUp =
      ap (λ (o : Option ℕ). cond (is_some o) (r.Error S5, with_places f s) (r.Closed, empty_session None)) (least_moved f s.fids)
      ∙ cond_moved (is_some (least_open s.fids)) _ _ (r.Error S5, s) (r.Closed, empty_session None) refl
      (λ i. (r.Closed, sym (blank_moved f None) i))

  table_moved : (s : SessionState) (x : TableStep) → table_stepped (with_places f s) x ≡ moved_reply f (table_stepped s x)
  table_moved s x =
      ap (λ (b : Bool). cond b (r.Error S5, with_places f s) (after_change (with_places f s) x)) (waits s)
      ∙ cond_moved (is_some s.awaited) _ _ (r.Error S5, s) (after_change s x) refl (tabled_moved s x)

  -- what a step does first is the same but for the places
  pub front_moved : (now : ℕ) (s : SessionState) (x : Step) (refused : Bool)
      → first_move_by now (with_places f s) x refused ≡ moved_front f (first_move_by now s x refused)
  front_moved now s (FindStep x) refused =
      shape s _ _ (attach_rules f s.fids x.fid x.afid x.aname) refused refused refl _ _ (find_same (tree_name_in x.aname))
  front_moved now s AttachStep refused = attach_front now s s.awaited
  front_moved now s (CallStep x) refused = call_front now s x refused
  front_moved now s (CloseStep fid) refused = close_front now s fid refused
  front_moved now s (Table x) refused = ap done_with (table_moved s x)

  -- ---- what comes of an answer

  rooted_moved : (fids : FidMap) (fid run : ℕ) (user : Option (List ℕ)) (pass : ℕ) (answer : Answer)
      → attach_settled (fids_with_places f fids) fid (f run) user pass answer ≡ moved_left f (attach_settled fids fid run user pass answer)
  rooted_moved fids fid run None pass (a.Attached qid) = refl
  rooted_moved fids fid run (Some user) pass (a.Attached qid) =
      λ i. (r.Attach qid, sym (insert_moved f fids fid (entry.Walked (walked_fid run pass 0 user))) i)
  rooted_moved fids fid run user pass answer = refl

  attach_moved : (s : SessionState) (o : Option Awaited) (told : PortAnswer)
      → attach_after (with_places f s) (option_map (awaited_with_places f) o) (moved_told f told) ≡ moved_reply f (attach_after s o told)
  attach_moved s None told = refl
  attach_moved s (Some p) (AttachAnswer (Ok x)) =
      λ i. (let y = rooted_moved s.fids p.fid p.run (user_in p.call.user) x.0 x.1 i in (
        y.0,
        record {
          msize = s.msize;
          awaited = None;
          fids = y.1;
        },
      ))
  attach_moved s (Some p) (AttachAnswer (Err fault)) = refl
  attach_moved s (Some p) (FindAnswer (Ok place)) = refl
  attach_moved s (Some p) (FindAnswer (Err fault)) = refl
  attach_moved s (Some p) (CallAnswer answer) = refl

  walk_by : (fids : FidMap) (newfid : ℕ) (o : Option (FidOf Walked)) (way : WalkResult) (stopped : Bool) → is_some way.stopped ≡ stopped
      → walk_left (fids_with_places f fids) newfid (option_map (fid_with_places f) o) way ≡ fids_with_places f (walk_left fids newfid o way)
  walk_by fids newfid None way stopped is = refl
  walk_by fids newfid (Some x) way true is = rw is refl
  walk_by fids newfid (Some x) way false is = rw is (sym (insert_moved f fids newfid (entry.Walked (moved_to x way.last))))

  open_by : (fids : FidMap) (fid : ℕ) (o : Option (FidOf Walked)) (by open_number number : ℕ)
      → open_left (fids_with_places f fids) fid (option_map (fid_with_places f) o) by open_number number
      ≡ fids_with_places f (open_left fids fid o by open_number number)
  open_by fids fid None by open_number number = refl
  open_by fids fid (Some x) by open_number number =
      sym (insert_moved f fids fid (entry.Opened (opened_fid (moved_to x number) by open_number)))

  read_by : (fids : FidMap) (fid : ℕ) (o : Option (FidOf Opened)) (place : Option Place)
      → read_left (fids_with_places f fids) fid (option_map (fid_with_places f) o) place ≡ fids_with_places f (read_left fids fid o place)
  read_by fids fid None place = refl
  read_by fids fid (Some x) None = refl
  read_by fids fid (Some x) (Some place) = sym (insert_moved f fids fid (entry.Opened (with_place x place)))

  walk_moved : (fids : FidMap) (fid newfid : ℕ) (answer : Answer)
      → walk_after (fids_with_places f fids) fid newfid answer ≡ moved_left f (walk_after fids fid newfid answer)
  walk_moved fids fid newfid (a.Walked way) =
      λ i. (
        r.Walk way,
        (ap (λ (o : Option (FidOf Walked)). walk_left (fids_with_places f fids) newfid o way) (walked_moved f fids fid) ∙ walk_by fids
            newfid
            (walked_at fids fid) way (is_some way.stopped) refl) i,
      )
  walk_moved fids fid newfid answer = refl

  opened_left : (fids : FidMap) (fid by open_number number : ℕ)
      → open_left (fids_with_places f fids) fid (walked_at (fids_with_places f fids) fid) by open_number number
      ≡ fids_with_places f (open_left fids fid (walked_at fids fid) by open_number number)
  opened_left fids fid by open_number number =
      ap (λ (o : Option (FidOf Walked)). open_left (fids_with_places f fids) fid o by open_number number) (walked_moved f fids fid) ∙
      open_by fids fid (walked_at fids fid) by open_number number

  open_moved : (fids : FidMap) (fid by : ℕ) (answer : Answer)
      → open_after (fids_with_places f fids) fid by answer ≡ moved_left f (open_after fids fid by answer)
  open_moved fids fid by (a.Opened qid open_number number) = λ i. (r.Open qid, opened_left fids fid by open_number number i)
  open_moved fids fid by answer = refl

  create_moved : (fids : FidMap) (fid by : ℕ) (answer : Answer)
      → create_after (fids_with_places f fids) fid by answer ≡ moved_left f (create_after fids fid by answer)
  create_moved fids fid by (a.Opened qid open_number number) = λ i. (r.Create qid, opened_left fids fid by open_number number i)
  create_moved fids fid by answer = refl

  read_moved : (fids : FidMap) (fid : ℕ) (answer : Answer)
      → read_after (fids_with_places f fids) fid answer ≡ moved_left f (read_after fids fid answer)
  read_moved fids fid (a.Data d) =
      λ i. (
        r.Read d.bytes,
        (ap (λ (o : Option (FidOf Opened)). read_left (fids_with_places f fids) fid o d.place) (opened_moved f fids fid) ∙ read_by fids fid
            (opened_at fids fid) d.place) i,
      )
  read_moved fids fid answer = refl

  call_moved : (fids : FidMap) (x : CallMessage) (answer : Answer)
      → call_after (fids_with_places f fids) x answer ≡ moved_left f (call_after fids x answer)
  call_moved fids (m.Walk x) answer = walk_moved fids x.fid x.newfid answer
  call_moved fids (m.Open x) answer = open_moved fids x.fid x.mode answer
  call_moved fids (m.Create x) answer = create_moved fids x.fid x.mode answer
  call_moved fids (m.Read x) answer = read_moved fids x.fid answer
  call_moved fids (m.Write x) answer = refl
  call_moved fids (m.Remove fid) answer = λ i. (remove_reply answer, sym (remove_moved f fids fid) i)
  call_moved fids (m.Stat fid) answer = refl
  call_moved fids (m.Wstat x) answer = refl

  -- after its answer all is the same except for the places
  pub after_moved : (s : SessionState) (x : Step) (told : PortAnswer)
      → reply_and_session (with_places f s) x (moved_told f told) ≡ moved_reply f (reply_and_session s x told)
  after_moved s (FindStep x) (FindAnswer (Ok place)) = refl
  after_moved s (FindStep x) (FindAnswer (Err fault)) = refl
  after_moved s (FindStep x) (AttachAnswer e) = refl
  after_moved s (FindStep x) (CallAnswer answer) = refl
  after_moved s AttachStep told = attach_moved s s.awaited told
  after_moved s (CallStep x) (CallAnswer answer) = λ i. (let y = call_moved s.fids x answer i in (
    y.0,
    record {
      msize = s.msize;
      awaited = option_map (awaited_with_places f) s.awaited;
      fids = y.1;
    },
  ))
  after_moved s (CallStep x) (FindAnswer (Ok place)) = refl
  after_moved s (CallStep x) (FindAnswer (Err fault)) = refl
  after_moved s (CallStep x) (AttachAnswer e) = refl
  after_moved s (CloseStep fid) (CallAnswer answer) = λ i. (
    close_reply answer,
    record {
      msize = s.msize;
      awaited = option_map (awaited_with_places f) s.awaited;
      fids = sym (remove_moved f s.fids fid) i;
    },
  )
  after_moved s (CloseStep fid) (FindAnswer (Ok place)) = refl
  after_moved s (CloseStep fid) (FindAnswer (Err fault)) = refl
  after_moved s (CloseStep fid) (AttachAnswer e) = refl
  after_moved s (Table x) (FindAnswer (Ok place)) = refl
  after_moved s (Table x) (FindAnswer (Err fault)) = refl
  after_moved s (Table x) (AttachAnswer e) = refl
  after_moved s (Table x) (CallAnswer answer) = refl
