-- Each step of a world keeps what is true of consistent worlds.
use Rattle.std.proofs.Common.{◌≡◌, ◌≢◌, ◌∙◌, ℕ, ◌+◌, ◌<◌, ◌≤◌, ◌==◌, Bool, true, false, not, cond, List, [], ◌∷◌, length, Option, None}
use Rattle.std.proofs.Common.{Some, Result, Ok, Err, refl, sym, ap, subst, arith, ◌⊎◌, inl, inr}
use Rattle.std.specs.Prelude.{nat_le, nat_lt, slice_get}
use Rattle.std.specs.FinMap.{get}
use Rattle.std.specs.Map.{keys_of}
use Rattle.std.specs.Option.{option_map_or}
use Rattle.std.specs.Result.{result_ok}
use Rattle.std.proofs.lemmas.Bool.{eq-eqb, ne_eqb}
use Rattle.std.proofs.lemmas.Bool.Decides.{nat_tests}
use Rattle.std.proofs.lemmas.List.{length-map}
use Rattle.std.proofs.lemmas.List.Quantifiers.{position-Some}
use Rattle.cs_fids.specs.declared.entry.FidEntry.{FidEntry}
use Rattle.cs_fids.specs.declared.entry.FidEntry.TheVariants as entry
use Rattle.cs_fids.specs.Entries.{pass_of, run_of, user_of}
use Rattle.cs_fids.specs.Fids.{walked_fid}
use Rattle.cs_fids.specs.Tables.{FidMap}
use Rattle.cs_journal.specs.Runs.{RunOf, with_pass}
use Rattle.cs_names.specs.Legal.{allowed_in, has_nul}
use Rattle.cs_names.specs.declared.fault.NameFault.{NameFault}
use Rattle.cs_names.specs.declared.fault.NameFault.TheVariants.{Empty, Long, NotText, Forbidden}
use Rattle.cs_names.specs.declared.limits.TheConstants.{RUN_ATTACHES}
use Rattle.cs_permit.specs.declared.call.Call.{Call}
use Rattle.cs_permit.specs.declared.call.Call.TheVariants as call
use Rattle.cs_plan.specs.Scenes.{state_at}
use Rattle.cs_permit.specs.declared.fault.FindFault.{FindFault}
use Rattle.cs_permit.specs.declared.fault.FindFault.TheVariants.{Unpublished, Full}
use Rattle.cs_registry.specs.declared.found.Found.{Found}
use Rattle.cs_registry.specs.Finds.{found_again, made}
use Rattle.cs_registry.specs.Keys.{Key, same_key}
use Rattle.cs_registry.specs.Registries.{Registry, is_published}
use Rattle.cs_registry.specs.Runs.{has_no_room, place_of, room_ends, with_find, with_run}
use Rattle.cs_run.specs.declared.answer.Answer.{Answer}
use Rattle.cs_run.specs.declared.answer.Answer.TheVariants as a
use Rattle.cs_session.specs.declared.message.AttachMessage.{AttachMessage}
use Rattle.cs_session.specs.Attaches.{attach_after, attach_settled, find_after}
use Rattle.cs_session.specs.Names.{user_in}
use Rattle.cs_session.specs.Questions.{AttachTo, AttachAnswer, CallAnswer, PortAnswer}
use Rattle.cs_session.specs.Questions as q
use Rattle.cs_session.specs.Sessions.{Awaited, SessionState, entry_at, with_fids, with_awaited}
use Rattle.cs_wire.specs.declared.message.Qid.{Qid}
use Rattle.cs_world.specs.Asking.{answer_of_runs, found_by, given_run, with_run_at}
use Rattle.cs_world.specs.Ends.{CallComesTo}
use Rattle.cs_world.specs.Marks.{RunMark, step_mark_of, refuses_pass, refuses_run}
use Rattle.cs_world.specs.Consistent.{HasConsistentRuns, HasAttached, IsAttachedAs, awaits}
use Rattle.cs_world.specs.Reaching.{IsMade}
use Rattle.cs_world.specs.Runs.{attach_on, call_on, run_step}
use Rattle.cs_world.specs.Worlds.{World, session_at}
use Rattle.cs_world.proofs.Answering.{IsOfRun, changes, stays}
use Rattle.cs_world.proofs.Judging.{IsSound, judged, keeps_attached, keeps_fresh, keeps_passes, keeps_sound, now_attached}
use Rattle.cs_world.proofs.Placing.{get_end, get_kept, get_pushed, get_within}
use Rattle.cs_world.proofs.Reached.{given_is}
use Rattle.cs_world.proofs.Standing.{Made, Moves, Stood, given, has_attached, held_there, is_there, one_if, stands}
use Rattle.cs_world.proofs.Tables.{inserted}

at_most_one : (b : Bool) → one_if b ≤ 1
at_most_one true = omega arith
at_most_one false = omega arith

-- ---- a find

module _ (w : World) (ok : HasConsistentRuns w) (conn : ℕ) (x : AttachMessage) (idle : (session_at w conn).awaited ≡ None) where
  -- the connection awaits its attach to the run at a place
  abbrev waits_at : ℕ → SessionState
  waits_at n = with_awaited (Some (record { fid = x.fid; run = n; call = record { user = x.uname } })) (session_at w conn)

  waits_there : (n place : ℕ) → place ≢ n → one_if (awaits place (waits_at n)) ≡ 0
  waits_there n place other = ap one_if (ne_eqb n place (λ same. other (sym same)))

  again_by : (n : ℕ) (key : Key) (run : Found RunOf) → slice_get w.registry.runs n ≡ Some (key, run)
      → room_ends w.registry.runs (Some n) ≡ false → Moves w conn (waits_at n) (record w.registry { runs = with_find w.registry.runs n })
  again_by n key run there room =
      let ends : nat_le RUN_ATTACHES run.finds ≡ false = rw there at room in
      changes w ok conn n key run there (λ f. record f { finds = f.finds + 1 }) (waits_at n) (record {
        fresh = refl;
        room = λ h. h;
        more = omega arith;
        attached = λ pass user h. h;
        own = (let most = at_most_one (awaits n (waits_at n)) in omega (arith, most));
        others = λ place other. (let none = waits_there n place other in omega (arith, none));
        few = λ f. grind (arith, nat_tests);
        awaited = λ p is. inr (ap (λ (o : Option Awaited). option_map_or (λ (p : Awaited). p.run) o n) (sym is));
        fids = λ fid e is. inl (ok.fids conn fid e is);
      })

  again : (key : Key) (n : ℕ) → place_of key w.registry.runs ≡ Some n → room_ends w.registry.runs (Some n) ≡ false
      → Moves w conn (waits_at n) (record w.registry { runs = with_find w.registry.runs n })
  again key n is room =
      let at = position-Some (same_key key) (keys_of w.registry.runs) n key is in
      let within : n < length w.registry.runs = omega (arith, at.0, length-map {A = Key × Found RunOf} {B = Key}) in
      let its = get_within w.registry.runs n within in
      again_by n its.0.0 its.0.1 its.1 room

  makes : (key : Key) (held : RunOf) → IsMade w.registry key (record {
    finds = 1;
    held = held;
  }) → Moves w conn (waits_at (length w.registry.runs)) (record w.registry { runs = with_run w.registry.runs key held })
  makes key held new =
      let one : Found RunOf = record { finds = 1; held = held } in
      let more : Registry RunOf = record w.registry { runs = with_run w.registry.runs key held } in
      let stood : (place : ℕ) (key' : Key) (run' : Found RunOf) → slice_get w.registry.runs place ≡ Some (key', run')
      → slice_get more.runs place ≡ Some (key', run') =
      λ place key' run' is. get_kept w.registry.runs ((key, one) ∷ []) place (key', run') is in
      record {
        scene = refl;
        published = refl;
        runs = λ place key' run' there. elim (get_pushed w.registry.runs place (key, one) (key', run') there) [
          | inl here ↦ Made here.0 (subst (λ (y : Key × Found RunOf). IsMade w.registry y.0 y.1) (sym here.1) new)
          | inr old ↦ Stood run' old.1 refl (λ h. h) (let none = waits_there (length w.registry.runs) place old.0 in omega (arith, none))
              (λ f. f)
        ];
        attached =
            λ place pass user h.
            (let g = given w.registry place pass user h in
            has_attached more place pass user g.key g.run (stood place g.key g.run g.there) g.gave g.attached);
        there = λ place h. (let g = stands w.registry place h in is_there more place g.key g.run (stood place g.key g.run g.there));
        awaited =
            λ p is. (let last : p.run ≡ length w.registry.runs =
            ap (λ (o : Option Awaited). option_map_or (λ (p : Awaited). p.run) o (length w.registry.runs)) (sym is) in
            is_there more p.run key one (ap (slice_get more.runs) last ∙ get_end w.registry.runs (key, one)));
        fids = λ fid e is.
            (let g = given w.registry (run_of e) (pass_of e) (user_of e) (ok.fids conn fid e is) in
            has_attached more (run_of e) (pass_of e) (user_of e) g.key g.run (stood (run_of e) g.key g.run g.there) g.gave g.attached);
      }

  same : Moves w conn (session_at w conn) w.registry
  same = stays w ok conn (session_at w conn) refl (λ fid e there. there)

  made_by : (key : Key) (mark : RunMark) → is_published w.registry key.number ≡ true → (g : Option RunOf)
      → given_run w.registry key.number mark ≡ g
      → Moves w conn (find_after (session_at w conn) x (q.FindAnswer (made w.registry key g).0)).1 (made w.registry key g).1
  made_by key mark published None is = same
  made_by key mark published (Some held) is =
      let new = given_is w.registry key.number (refuses_run mark) (state_at w.registry.scene key.number) held is in
      makes key held (record { published = published; tree = new.0; state = new.1.0; fresh = new.1.1; once = refl })

  find_by : (key : Key) (mark : RunMark) (published full : Bool) (o : Option ℕ) → is_published w.registry key.number ≡ published
      → place_of key w.registry.runs ≡ o → room_ends w.registry.runs o ≡ full
      → (out : Result ℕ FindFault × Registry RunOf)
      → cond {A = Result ℕ FindFault × Registry RunOf} (not published) (Err Unpublished, w.registry)
      (cond full (Err Full, w.registry)
      (option_map_or (found_again w.registry) o (made w.registry key (given_run w.registry key.number mark)))) ≡ out
      → Moves w conn (find_after (session_at w conn) x (q.FindAnswer out.0)).1 out.1
  find_by key mark false full o p is room out e =
      subst (λ (out : Result ℕ FindFault × Registry RunOf). Moves w conn (find_after (session_at w conn) x (q.FindAnswer out.0)).1 out.1) e
      same
  find_by key mark true true o p is room out e =
      subst (λ (out : Result ℕ FindFault × Registry RunOf). Moves w conn (find_after (session_at w conn) x (q.FindAnswer out.0)).1 out.1) e
      same
  find_by key mark true false (Some n) p is room out e =
      subst (λ (out : Result ℕ FindFault × Registry RunOf). Moves w conn (find_after (session_at w conn) x (q.FindAnswer out.0)).1 out.1) e
      (again key n is room)
  find_by key mark true false None p is room out e =
      subst (λ (out : Result ℕ FindFault × Registry RunOf). Moves w conn (find_after (session_at w conn) x (q.FindAnswer out.0)).1 out.1) e
      (made_by key mark p (given_run w.registry key.number mark) refl)

  pub finds : (mark : RunMark) (o : Option Key)
      → Moves w conn (find_after (session_at w conn) x (found_by w.registry mark o).0).1 (found_by w.registry mark o).1
  finds mark None = same
  finds mark (Some key) =
      find_by key mark (is_published w.registry key.number) (has_no_room w.registry.runs key) (place_of key w.registry.runs) refl refl refl
      _ refl

-- ---- an attach

-- the name of a user is the bytes that are read as one
allowed_same : (bytes user : List ℕ) (forbidden : Bool)
    → result_ok (cond {A = Result (List ℕ) NameFault} forbidden (Err Forbidden) (Ok bytes)) ≡ Some user → user ≡ bytes
allowed_same bytes user true is = absurd (cc)
allowed_same bytes user false is = cc

text_same : (bytes user : List ℕ) (none long text : Bool)
    → result_ok
    (allowed_in has_nul
    (cond {A = Result (List ℕ) NameFault} none (Err Empty)
    (cond {A = Result (List ℕ) NameFault} long (Err Long) (cond {A = Result (List ℕ) NameFault} text (Ok bytes) (Err NotText)))))
    ≡ Some user → user ≡ bytes
text_same bytes user true long text is = absurd (cc)
text_same bytes user false true text is = absurd (cc)
text_same bytes user false false false is = absurd (cc)
text_same bytes user false false true is = allowed_same bytes user (has_nul bytes) is

user_same : (bytes user : List ℕ) → user_in bytes ≡ Some user → user ≡ bytes
user_same bytes user is = text_same bytes user _ _ _ is

-- a fid that an attach leaves is one that was there; or the attach was granted, and the fid is of its run, under its pass, for its user
pub record IsRooted (run : ℕ) (user : Option (List ℕ)) (pass : ℕ) (answer : Answer) (e : FidEntry) : Type 0 where
  pub qid : Qid
  pub granted : answer ≡ a.Attached qid
  pub run_is : run_of e ≡ run
  pub pass_is : pass_of e ≡ pass
  pub user_is : user ≡ Some (user_of e)

settled_source : (fids : FidMap) (fid run : ℕ) (user : Option (List ℕ)) (pass : ℕ) (answer : Answer) (k : ℕ) (e : FidEntry)
    → get (attach_settled fids fid run user pass answer).1 k ≡ Some e → (get fids k ≡ Some e) ⊎ IsRooted run user pass answer e
settled_source fids fid run None pass (a.Attached qid) k e there = inl there
settled_source fids fid run (Some user) pass (a.Attached qid) k e there =
    elim (inserted fids fid k (entry.Walked (walked_fid run pass 0 user)) e there) [
      | inl new ↦ inr (record {
        qid = qid;
        granted = refl;
        run_is = ap run_of new.1;
        pass_is = ap pass_of new.1;
        user_is = ap (λ x. Some (user_of x)) (sym new.1);
      })
      | inr old ↦ inl old
    ]
settled_source fids fid run user pass answer k e there = inl there

module _ (w : World) (ok : HasConsistentRuns w) (conn : ℕ) (p : Awaited) (waits : (session_at w conn).awaited ≡ Some p) (key : Key)
    (run : Found RunOf) (there : slice_get w.registry.runs p.run ≡ Some (key, run)) where
  own_count : one_if (awaits p.run (session_at w conn)) ≡ 1
  own_count = rw waits (ap one_if (eq-eqb p.run p.run refl))

  -- a pass more attaches nobody yet
  with_pass_attached : (held : RunOf) (pass : ℕ) (user : List ℕ) → IsAttachedAs held pass user → IsAttachedAs (with_pass held) pass user
  with_pass_attached held pass user h = record { place = h.place; moment = h.moment; entry = h.entry }

  -- the run changes, and no longer awaits the attach
  attach_moves : (held : RunOf) → held.fresh ≡ run.held.fresh → (IsSound run.held → IsSound held) → run.held.passes ≤ held.passes
      → held.passes ≤ run.held.passes + 1 → ((pass : ℕ) (user : List ℕ) → IsAttachedAs run.held pass user → IsAttachedAs held pass user)
      → (s' : SessionState) → s'.awaited ≡ None
      → ((fid : ℕ) (e : FidEntry) → entry_at s' fid ≡ Some e → (entry_at (session_at w conn) fid ≡ Some e) ⊎ IsOfRun p.run held e)
      → Moves w conn s' (with_run_at w.registry p.run held)
  attach_moves held fresh room more most attached s' idle fids =
      let none : (place : ℕ) → one_if (awaits place s') ≡ 0 = λ place. rw idle refl in
      changes w ok conn p.run key run there (λ f. record f { held = held }) s' (record {
        fresh = fresh;
        room = room;
        more = more;
        attached = attached;
        own = (let zero_now = none p.run in omega (arith, zero_now, own_count, most));
        others = λ place other. (let zero_now = none place in omega (arith, zero_now));
        few = λ f. f;
        awaited = λ x is. absurd (cc);
        fids = λ fid e is. elim (fids fid e is) [ inl was ↦ inl (ok.fids conn fid e was) | inr its ↦ inr its ];
      })

  -- the fid of a granted attach is for the user whom it attached
  attached_by : (now : ℕ) (answer : Answer) (run' : RunOf)
      → CallComesTo (with_pass run.held) now run.held.passes (call.Attach p.call) answer run' → (e : FidEntry)
      → IsRooted p.run (user_in p.call.user) run.held.passes answer e → IsAttachedAs run' (pass_of e) (user_of e)
  attached_by now answer run' end e rooted =
      let granted = subst (λ x. CallComesTo (with_pass run.held) now run.held.passes (call.Attach p.call) x run') rooted.granted end in
      let new : IsAttachedAs run' run.held.passes p.call.user =
      now_attached (with_pass run.held) now run.held.passes p.call rooted.qid run' granted in
      let user : user_of e ≡ p.call.user = user_same p.call.user (user_of e) rooted.user_is in
      subst (λ u. IsAttachedAs run' (pass_of e) u) (sym user) (subst (λ n. IsAttachedAs run' n p.call.user) (sym rooted.pass_is) new)

  attaches_by : (now : ℕ) (mark : RunMark) (full refused : Bool) → nat_le RUN_ATTACHES run.held.passes ≡ full → refuses_pass mark ≡ refused
      → Moves w conn (attach_after (session_at w conn) (Some p) (AttachAnswer (attach_on run.held now p.call mark).0)).1
      (with_run_at w.registry p.run (attach_on run.held now p.call mark).1)
  attaches_by now mark true refused f is =
      rw f (attach_moves run.held refl (λ h. h) (omega arith) (omega arith) (λ pass user h. h) (with_awaited None (session_at w conn)) refl
      (λ fid e there. inl there))
  attaches_by now mark false true f is =
      rw (f, is)
      (attach_moves run.held refl (λ h. h) (omega arith) (omega arith) (λ pass user h. h) (with_awaited None (session_at w conn)) refl
      (λ fid e there. inl there))
  attaches_by now mark false false f is =
      let more : RunOf = with_pass run.held in
      let it : Call = call.Attach p.call in
      let ended = run_step more now run.held.passes it (step_mark_of mark) in
      let its = judged more now run.held.passes it (step_mark_of mark) in
      let passes : ended.1.passes ≡ run.held.passes + 1 = keeps_passes more now run.held.passes it ended.0 ended.1 its in
      rw (f, is)
      (attach_moves ended.1 (keeps_fresh more now run.held.passes it ended.0 ended.1 its)
      (keeps_sound more now run.held.passes it ended.0 ended.1 its) (omega (arith, passes)) (omega (arith, passes))
      (λ pass user h. keeps_attached more now run.held.passes it ended.0 ended.1 pass user its
      (with_pass_attached run.held pass user h))
      (with_fids (attach_settled (session_at w conn).fids p.fid p.run (user_in p.call.user) run.held.passes ended.0).1
      (with_awaited None (session_at w conn))) refl (λ fid e there.
      elim (settled_source (session_at w conn).fids p.fid p.run (user_in p.call.user) run.held.passes ended.0 fid e there) [
        | inl was ↦ inl was
        | inr rooted ↦ inr (record {
          here = rooted.run_is;
          gave = (let at : pass_of e ≡ run.held.passes = rooted.pass_is in omega (arith, at, passes));
          attached = attached_by now ended.0 ended.1 its e rooted;
        })
      ]))

pub attaches : (w : World) (ok : HasConsistentRuns w) (conn : ℕ) (p : Awaited) → (session_at w conn).awaited ≡ Some p
    → (now : ℕ) (mark : RunMark)
    → Moves w conn
    (attach_after (session_at w conn) (session_at w conn).awaited (answer_of_runs w.registry (AttachTo now p.run p.call) mark).0).1
    (answer_of_runs w.registry (AttachTo now p.run p.call) mark).1
attaches w ok conn p waits now mark =
    let its = stands w.registry p.run (ok.awaited conn p waits) in
    rw (waits, held_there w.registry p.run its.key its.run its.there)
    (attaches_by w ok conn p waits its.key its.run its.there now mark _ _ refl refl)

-- ---- a call

module _ (w : World) (ok : HasConsistentRuns w) (conn now place pass : ℕ) (call : Call) (user : List ℕ)
    (has : HasAttached w.registry place pass user) (mark : RunMark) where
  calls_by : (key : Key) (run : Found RunOf) → slice_get w.registry.runs place ≡ Some (key, run) → pass < run.held.passes
      → (after : Answer → SessionState) → ((answer : Answer) → (after answer).awaited ≡ (session_at w conn).awaited)
      → ((answer : Answer) (fid : ℕ) (e : FidEntry) → entry_at (after answer) fid ≡ Some e
      → HasAttached w.registry (run_of e) (pass_of e) (user_of e))
      → Moves w conn (after (call_on run.held now pass call (step_mark_of mark)).0)
      (with_run_at w.registry place (call_on run.held now pass call (step_mark_of mark)).1)
  calls_by key run there low after idle fids =
      let known : nat_lt pass run.held.passes ≡ true = grind (arith, nat_tests) in
      let ended = run_step run.held now pass call (step_mark_of mark) in
      let its = judged run.held now pass call (step_mark_of mark) in
      let passes : ended.1.passes ≡ run.held.passes = keeps_passes run.held now pass call ended.0 ended.1 its in
      let count : (at : ℕ) → one_if (awaits at (after ended.0)) ≡ one_if (awaits at (session_at w conn)) =
      λ at. ap (λ (o : Option Awaited). one_if (option_map_or (λ (p : Awaited). p.run == at) o false)) (idle ended.0) in
      rw known (changes w ok conn place key run there (λ f. record f { held = ended.1 }) (after ended.0) (record {
        fresh = keeps_fresh run.held now pass call ended.0 ended.1 its;
        room = keeps_sound run.held now pass call ended.0 ended.1 its;
        more = omega (arith, passes);
        attached = λ number user h. keeps_attached run.held now pass call ended.0 ended.1 number user its h;
        own = (let same = count place in omega (arith, same, passes));
        others = λ at other. (let same = count at in omega (arith, same));
        few = λ f. f;
        awaited = λ p is. inl (sym (idle ended.0) ∙ is);
        fids = λ fid e is. inl (fids ended.0 fid e is);
      }))

  pub calls : (after : PortAnswer → SessionState) → ((answer : Answer) → (after (CallAnswer answer)).awaited ≡ (session_at w conn).awaited)
      → ((answer : Answer) (fid : ℕ) (e : FidEntry) → entry_at (after (CallAnswer answer)) fid ≡ Some e
      → HasAttached w.registry (run_of e) (pass_of e) (user_of e))
      → Moves w conn (after (answer_of_runs w.registry (q.CallOn now place pass call) mark).0)
      (answer_of_runs w.registry (q.CallOn now place pass call) mark).1
  calls after idle fids =
      let its = given w.registry place pass user has in
      rw (held_there w.registry place its.key its.run its.there)
      (calls_by its.key its.run its.there its.gave (λ answer. after (CallAnswer answer)) idle fids)
