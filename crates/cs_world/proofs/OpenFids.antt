-- Each open fid keeps its open, which no other fid has.
use Rattle.std.proofs.Common.{◌≡◌, ◌≢◌, ◌∙◌, ℕ, ◌<◌, ◌==◌, Bool, true, false, List, length, Option, None, Some, IsSome, Ok, Err, refl, sym}
use Rattle.std.proofs.Common.{ap, subst, arith, ◌⊎◌, inl, inr}
use Rattle.std.specs.Prelude.{IsSomeAnd, nat_le, nat_lt, slice_get}
use Rattle.std.specs.FinMap.{get}
use Rattle.std.specs.Option.{option_map}
use Rattle.std.proofs.lemmas.Bool.{eqb-true, eqb-false}
use Rattle.std.proofs.lemmas.Bool.Decides.{nat_tests}
use Rattle.std.proofs.lemmas.List.{get_or-set_other, get_or-set_same}
use Rattle.std.proofs.lemmas.Option.{slice_get_within}
use Rattle.cs_fids.specs.declared.entry.FidEntry.{FidEntry}
use Rattle.cs_fids.specs.declared.entry.FidEntry.TheVariants as entry
use Rattle.cs_fids.specs.declared.fid.Opened.{Opened}
use Rattle.cs_fids.specs.declared.fid.Walked.{Walked}
use Rattle.cs_fids.specs.Entries.{pass_of, run_of, user_of}
use Rattle.cs_fids.specs.FidOf.{FidOf}
use Rattle.cs_fids.specs.Fids.{moved_to, opened_fid, walked_fid, with_place}
use Rattle.cs_fids.specs.Tables.{FidMap}
use Rattle.cs_journal.specs.Runs.{RunOf, state_of, with_pass}
use Rattle.cs_names.specs.declared.limits.TheConstants.{RUN_ATTACHES}
use Rattle.cs_permit.specs.declared.call.Call.TheVariants as call
use Rattle.cs_registry.specs.declared.found.Found.{Found}
use Rattle.cs_registry.specs.Keys.{Key}
use Rattle.cs_registry.specs.Registries.{Registry}
use Rattle.cs_registry.specs.Runs.{held_at}
use Rattle.cs_run.specs.declared.answer.Answer.{Answer}
use Rattle.cs_run.specs.declared.answer.Answer.TheVariants as a
use Rattle.cs_run.specs.Opens.{open_numbered}
use Rattle.cs_session.specs.declared.message.AttachMessage.{AttachMessage}
use Rattle.cs_session.specs.Attaches.{attach_after, attach_settled, find_after}
use Rattle.cs_session.specs.Names.{user_in}
use Rattle.cs_session.specs.Questions.{Question, FindRun, AttachTo, CallOn, PortAnswer, AttachAnswer, CallAnswer}
use Rattle.cs_session.specs.Questions as q
use Rattle.cs_session.specs.Sessions.{Awaited, SessionState, empty_session, entry_at}
use Rattle.cs_world.specs.Asking.{answer_of_runs, with_run_at}
use Rattle.cs_world.specs.Ends.{CallComesTo}
use Rattle.cs_world.specs.Marks.{RunMark, step_mark_of, refuses_pass}
use Rattle.cs_world.specs.Consistent.{HasConsistentRuns, HasOpen, HaveTheirOpens}
use Rattle.cs_world.specs.Runs.{attach_on, run_step}
use Rattle.cs_world.specs.Worlds.{World, session_at, with_both}
use Rattle.cs_world.proofs.Judging.{judged}
use Rattle.cs_world.proofs.Opens as o
use Rattle.cs_world.proofs.Reached.{keeps, put_other, put_same}
use Rattle.cs_world.proofs.Standing.{given, held_there}
use Rattle.cs_world.proofs.Tables.{IsAsked, Source, Kept, Walks, Opens, Reads, inserted}

-- ---- the origin of an open fid

-- it was open before, and its open isn't the one that ends
pub record Was (w : World) (conn : ℕ) (freed : Option ℕ) (c fid : ℕ) (f : FidOf Opened) : Type 0 where
  pub from : FidOf Opened
  pub was : entry_at (session_at w c) fid ≡ Some (entry.Opened from)
  pub run : f.run ≡ from.run
  pub pass : f.pass ≡ from.pass
  pub number : f.state.open_number ≡ from.state.open_number
  pub keeps : c ≡ conn → freed ≡ Some fid → ⊥

-- its open was made, and no fid had it
pub record Made (w : World) (conn at : ℕ) (r' : Registry RunOf) (c fid : ℕ) (f : FidOf Opened) : Type 0 where
  pub own : c ≡ conn
  pub here : fid ≡ at
  pub has : HasOpen r' f.run f.pass f.state.open_number
  pub fresh : (other n : ℕ) (g : FidOf Opened) → entry_at (session_at w other) n ≡ Some (entry.Opened g) → g.run ≡ f.run
      → g.state.open_number ≡ f.state.open_number → ⊥

pub record KeepsOpens (w : World) (conn at : ℕ) (freed : Option ℕ) (s' : SessionState) (r' : Registry RunOf) : Type 0 where
  pub stand : (c fid : ℕ) (f : FidOf Opened) → entry_at (session_at w c) fid ≡ Some (entry.Opened f) → (c ≡ conn → freed ≡ Some fid → ⊥)
      → HasOpen r' f.run f.pass f.state.open_number
  pub source : (fid : ℕ) (f : FidOf Opened) → entry_at s' fid ≡ Some (entry.Opened f) → Was w conn freed conn fid f
      ⊎ Made w conn at r' conn fid f

module _ (w : World) (ok : HaveTheirOpens w) (conn : ℕ) (inside : conn < length w.connections) (at : ℕ) (freed : Option ℕ)
    (s' : SessionState) (r' : Registry RunOf) (k : KeepsOpens w conn at freed s' r') where
  abbrev next : World
  next = with_both w conn s' r'

  whence_by : (c : ℕ) (b : Bool) → (c == conn) ≡ b → (fid : ℕ) (f : FidOf Opened) → entry_at (session_at next c) fid ≡ Some (entry.Opened f)
      → Was w conn freed c fid f ⊎ Made w conn at r' c fid f
  whence_by c true is fid f there =
      let same : c ≡ conn = eqb-true c conn is in
      let now : session_at next c ≡ s' = ap (session_at next) same ∙ get_or-set_same w.connections conn s' (empty_session None) inside in
      subst (λ n. Was w conn freed n fid f ⊎ Made w conn at r' n fid f) (sym same)
      (k.source fid f (ap (λ s. entry_at s fid) (sym now) ∙ there))
  whence_by c false is fid f there =
      let other : c ≢ conn = eqb-false c conn is in
      let now : session_at next c ≡ session_at w c = get_or-set_other w.connections conn c s' (empty_session None) other in
      inl (record {
        from = f;
        was = ap (λ s. entry_at s fid) (sym now) ∙ there;
        run = refl;
        pass = refl;
        number = refl;
        keeps = λ same. absurd (other same);
      })

  whence : (c fid : ℕ) (f : FidOf Opened) → entry_at (session_at next c) fid ≡ Some (entry.Opened f) → Was w conn freed c fid f
      ⊎ Made w conn at r' c fid f
  whence c fid f there = whence_by c (c == conn) refl fid f there

  stand_by : (c fid : ℕ) (f : FidOf Opened) → Was w conn freed c fid f ⊎ Made w conn at r' c fid f
      → HasOpen r' f.run f.pass f.state.open_number
  stand_by c fid f (inl o) =
      subst (λ (n : ℕ). HasOpen r' f.run f.pass n) (sym o.number)
      (subst (λ (p : ℕ). HasOpen r' f.run p o.from.state.open_number) (sym o.pass)
      (subst (λ (r : ℕ). HasOpen r' r o.from.pass o.from.state.open_number) (sym o.run) (k.stand c fid o.from o.was o.keeps)))
  stand_by c fid f (inr m) = m.has

  own_by : (c fid d n : ℕ) (f g : FidOf Opened) → Was w conn freed c fid f ⊎ Made w conn at r' c fid f → Was w conn freed d n g
      ⊎ Made w conn at r' d n g → f.run ≡ g.run → f.state.open_number ≡ g.state.open_number → (c ≡ d) × (fid ≡ n)
  own_by c fid d n f g (inl o) (inl p) run number =
      ok.own c fid d n o.from p.from o.was p.was (sym o.run ∙ run ∙ p.run) (sym o.number ∙ number ∙ p.number)
  own_by c fid d n f g (inl o) (inr m) run number = absurd (m.fresh c fid o.from o.was (sym o.run ∙ run) (sym o.number ∙ number))
  own_by c fid d n f g (inr m) (inl o) run number = absurd (m.fresh d n o.from o.was (sym o.run ∙ sym run) (sym o.number ∙ sym number))
  own_by c fid d n f g (inr m) (inr p) run number = (m.own ∙ sym p.own, m.here ∙ sym p.here)

  pub kept : HaveTheirOpens next
  kept = record {
    stand = λ c fid f there. stand_by c fid f (whence c fid f there);
    own = λ c fid d n f g here there run number. own_by c fid d n f g (whence c fid f here) (whence d n g there) run number;
  }

-- ---- no open ends, and no fid is opened

module _ (w : World) (ok : HaveTheirOpens w) (conn : ℕ) (s' : SessionState) (r' : Registry RunOf) where
  pub unopened : ((place pass number : ℕ) → HasOpen w.registry place pass number → HasOpen r' place pass number)
      → ((fid : ℕ) (f : FidOf Opened) → entry_at s' fid ≡ Some (entry.Opened f) → entry_at (session_at w conn) fid ≡ Some (entry.Opened f))
      → KeepsOpens w conn 0 None s' r'
  unopened has kept = record {
    stand = λ c fid f there keeps. has f.run f.pass f.state.open_number (ok.stand c fid f there);
    source = λ fid f there. inl (record {
      from = f;
      was = kept fid f there;
      run = refl;
      pass = refl;
      number = refl;
      keeps = λ own none. cc;
    });
  }

-- a find keeps all opens
module _ (registry : Registry RunOf) (state_name run_name : List ℕ) (mark : RunMark) (place pass number : ℕ) where
  pub find_has : HasOpen registry place pass number
      → HasOpen (answer_of_runs registry (FindRun state_name run_name) mark).1 place pass number
  find_has h =
      let its = is_at h in
      let same : held_at (answer_of_runs registry (FindRun state_name run_name) mark).1.runs place ≡ held_at registry.runs place =
      keeps registry (FindRun state_name run_name) mark place (λ e. cc) its in
      rw same h
    where
      stands_by : (o : Option (Key × Found RunOf)) → slice_get registry.runs place ≡ o
          → IsSomeAnd (option_map (λ (run : Key × Found RunOf). run.1.held) o)
          (λ run. IsSome (open_numbered number pass (state_of run).opens)) → place < length registry.runs
      stands_by None is h = absurd h
      stands_by (Some e) is h = slice_get_within registry.runs place e is

      is_at : HasOpen registry place pass number → place < length registry.runs
      is_at h = stands_by (slice_get registry.runs place) refl h

-- a run that changes keeps those that it keeps
module _ (registry : Registry RunOf) (n : ℕ) (run run' : RunOf) (there : held_at registry.runs n ≡ Some run) where
  put_by : (place pass number : ℕ)
      → (place ≡ n → IsSome (open_numbered number pass (state_of run).opens) → IsSome (open_numbered number pass (state_of run').opens))
      → (b : Bool) → (place == n) ≡ b → HasOpen registry place pass number → HasOpen (with_run_at registry n run') place pass number
  put_by place pass number stays true is h =
      let same : place ≡ n = eqb-true place n is in
      let here : HasOpen registry n pass number = subst (λ p. HasOpen registry p pass number) same h in
      let stood : IsSome (open_numbered number pass (state_of run).opens) = rw there at here in
      subst (λ p. HasOpen (with_run_at registry n run') p pass number) (sym same)
      (rw (put_same registry n run' run there) (stays same stood))
  put_by place pass number stays false is h = rw (put_other registry n run' place (eqb-false place n is)) h

  pub put_has : (place pass number : ℕ)
      → (place ≡ n → IsSome (open_numbered number pass (state_of run).opens) → IsSome (open_numbered number pass (state_of run').opens))
      → HasOpen registry place pass number → HasOpen (with_run_at registry n run') place pass number
  put_has place pass number stays h = put_by place pass number stays (place == n) refl h

-- ---- an attach

settled_open : (fids : FidMap) (fid run : ℕ) (user : Option (List ℕ)) (pass : ℕ) (answer : Answer) (k : ℕ) (f : FidOf Opened)
    → get (attach_settled fids fid run user pass answer).1 k ≡ Some (entry.Opened f) → get fids k ≡ Some (entry.Opened f)
settled_open fids fid run None pass (a.Attached qid) k f there = there
settled_open fids fid run (Some user) pass (a.Attached qid) k f there =
    elim (inserted fids fid k (entry.Walked (walked_fid run pass 0 user)) (entry.Opened f) there) [
      | inl new ↦ absurd (let is = new.1 in cc)
      | inr old ↦ old
    ]
settled_open fids fid run user pass answer k f there = there

pub attached_open : (s : SessionState) (p : Option Awaited) (told : PortAnswer) (k : ℕ) (f : FidOf Opened)
    → entry_at (attach_after s p told).1 k ≡ Some (entry.Opened f) → entry_at s k ≡ Some (entry.Opened f)
attached_open s None told k f there = there
attached_open s (Some p) (AttachAnswer (Ok pass)) k f there = settled_open s.fids p.fid p.run (user_in p.call.user) pass.0 pass.1 k f there
attached_open s (Some p) (AttachAnswer (Err fault)) k f there = there
attached_open s (Some p) told k f there = there

pub found_open : (s : SessionState) (x : AttachMessage) (told : PortAnswer) (k : ℕ) (f : FidOf Opened)
    → entry_at (find_after s x told).1 k ≡ Some (entry.Opened f) → entry_at s k ≡ Some (entry.Opened f)
found_open s x (q.FindAnswer (Ok run)) k f there = there
found_open s x (q.FindAnswer (Err fault)) k f there = there
found_open s x told k f there = there

module _ (registry : Registry RunOf) (now n : ℕ) (attach : _) (mark : RunMark) (place pass number : ℕ) where
  attach_stays : (run : RunOf) (full short : Bool) → nat_le RUN_ATTACHES run.passes ≡ full → refuses_pass mark ≡ short
      → IsSome (open_numbered number pass (state_of run).opens)
      → IsSome (open_numbered number pass (state_of (attach_on run now attach mark).1).opens)
  attach_stays run true short f e h = rw f h
  attach_stays run false true f e h = rw (f, e) h
  attach_stays run false false f e h =
      let ended = run_step (with_pass run) now run.passes (call.Attach attach) (step_mark_of mark) in
      rw (f, e)
      (o.stays (with_pass run) now run.passes (call.Attach attach) ended.0 ended.1
      (judged (with_pass run) now run.passes (call.Attach attach) (step_mark_of mark)) number pass (λ none. cc) h)

  attach_by : (x : Option RunOf) → held_at registry.runs n ≡ x → HasOpen registry place pass number
      → HasOpen (answer_of_runs registry (AttachTo now n attach) mark).1 place pass number
  attach_by None is h = rw is h
  attach_by (Some run) is h =
      rw is (put_has registry n run (attach_on run now attach mark).1 is place pass number
      (λ same stood. attach_stays run _ _ refl refl stood) h)

  pub attach_has : HasOpen registry place pass number → HasOpen (answer_of_runs registry (AttachTo now n attach) mark).1 place pass number
  attach_has h = attach_by (held_at registry.runs n) refl h

-- ---- a call

module _ (w : World) (there : HasConsistentRuns w) (ok : HaveTheirOpens w) (conn now at : ℕ) (freed : Option ℕ) (question : Question)
    (its : IsAsked (session_at w conn).fids now at freed question) (mark : RunMark) where
  place : ℕ
  place = run_of its.held

  pass : ℕ
  pass = pass_of its.held

  module _ (run : RunOf) (held : held_at w.registry.runs (run_of its.held) ≡ Some run) (answer : Answer) (run' : RunOf)
      (end : CallComesTo run now (pass_of its.held) its.call answer run') where
    -- an open that was there stays, except the one that ends
    stands_still : (c fid : ℕ) (f : FidOf Opened) → entry_at (session_at w c) fid ≡ Some (entry.Opened f)
        → (c ≡ conn → freed ≡ Some fid → ⊥) → HasOpen (with_run_at w.registry (run_of its.held) run') f.run f.pass f.state.open_number
    stands_still c fid f is keeps =
        put_has w.registry (run_of its.held) run run' held f.run f.pass f.state.open_number
        (λ same stood. o.stays run now (pass_of its.held) its.call answer run' end f.state.open_number f.pass (λ closed.
        let e = its.ends f.state.open_number closed in
        let g : FidOf Opened = e.0 in
        let mine : entry_at (session_at w conn) at ≡ Some (entry.Opened g) = its.there ∙ ap Some e.1 in
        let one = ok.own c fid conn at f g is mine (same ∙ ap run_of e.1) (sym e.2) in
        keeps one.0 (e.3 ∙ ap Some (sym one.1))) stood) (ok.stand c fid f is)

    -- an open that the answer names is new
    new_open : (fid mode open_number number : ℕ) (qid : _) (from : FidOf Walked) (f : FidOf Opened) → fid ≡ at
        → get (session_at w conn).fids fid ≡ Some (entry.Walked from) → answer ≡ a.Opened qid open_number number
        → entry.Opened f ≡ entry.Opened (opened_fid (moved_to from number) mode open_number)
        → Made w conn at (with_run_at w.registry (run_of its.held) run') conn fid f
    new_open fid mode open_number number qid from f here is told e =
        let new = o.opens run now (pass_of its.held) its.call answer run' qid open_number number told end in
        let same : f ≡ opened_fid (moved_to from number) mode open_number = cc in
        let entry_is : its.held ≡ entry.Walked from = let other : Some its.held ≡ Some (entry.Walked from) =
        sym its.there ∙ ap (get (session_at w conn).fids) (sym here) ∙ is in cc in
        let run_is : f.run ≡ run_of its.held = ap (λ (g : FidOf Opened). g.run) same ∙ sym (ap run_of entry_is) in
        let pass_is : f.pass ≡ pass_of its.held = ap (λ (g : FidOf Opened). g.pass) same ∙ sym (ap pass_of entry_is) in
        let number_is : f.state.open_number ≡ open_number = ap (λ (g : FidOf Opened). g.state.open_number) same in
        let standing : HasOpen (with_run_at w.registry (run_of its.held) run') (run_of its.held) (pass_of its.held) open_number =
        rw (put_same w.registry (run_of its.held) run' run held) new.1 in
        record {
          own = refl;
          here = here;
          has = subst (λ (n : ℕ). HasOpen (with_run_at w.registry (run_of its.held) run') f.run f.pass n) (sym number_is)
              (subst (λ (p : ℕ). HasOpen (with_run_at w.registry (run_of its.held) run') f.run p open_number) (sym pass_is)
              (subst (λ (r : ℕ). HasOpen (with_run_at w.registry (run_of its.held) run') r (pass_of its.held) open_number) (sym run_is)
              standing));
          fresh = λ other n g there run_same number_same.
              let stood : HasOpen w.registry (run_of its.held) g.pass g.state.open_number =
              subst (λ (r : ℕ). HasOpen w.registry r g.pass g.state.open_number) (run_same ∙ run_is) (ok.stand other n g there) in
              let has : IsSome (open_numbered g.state.open_number g.pass (state_of run).opens) = rw held at stood in
              let low = o.below run g.state.open_number g.pass has in
              let is_new : open_number ≡ (state_of run).entries = new.0 in
              absurd (omega (arith, low, is_new, number_same, number_is));
        }

    call_source : (s' : SessionState)
        → ((fid : ℕ) (e : FidEntry) → entry_at s' fid ≡ Some e → Source (session_at w conn).fids at answer fid e)
        → ((fid : ℕ) (e : FidEntry) → entry_at s' fid ≡ Some e → freed ≡ Some fid → ⊥)
        → KeepsOpens w conn at freed s' (with_run_at w.registry (run_of its.held) run')
    call_source s' sources free = record {
      stand = stands_still;
      source = λ fid f is. by fid f is (sources fid (entry.Opened f) is);
    }
      where
        by : (fid : ℕ) (f : FidOf Opened) → entry_at s' fid ≡ Some (entry.Opened f)
            → Source (session_at w conn).fids at answer fid (entry.Opened f) → Was w conn freed conn fid f
            ⊎ Made w conn at (with_run_at w.registry (run_of its.held) run') conn fid f
        by fid f is (Kept was) = inl (record {
          from = f;
          was = was;
          run = refl;
          pass = refl;
          number = refl;
          keeps = λ own gone. free fid (entry.Opened f) is gone;
        })
        by fid f is (Walks j from number was e) = absurd (cc)
        by fid f is (Opens from mode open_number number qid here was told e) =
            inr (new_open fid mode open_number number qid from f here was told e)
        by fid f is (Reads from place was e) =
            let same : f ≡ with_place from place = cc in
            inl (record {
              from = from;
              was = was;
              run = ap (λ (g : FidOf Opened). g.run) same;
              pass = ap (λ (g : FidOf Opened). g.pass) same;
              number = ap (λ (g : FidOf Opened). g.state.open_number) same;
              keeps = λ own gone. free fid (entry.Opened f) is gone;
            })

  -- what the answer leads to
  pub called_keeps : (after : Answer → SessionState)
      → ((answer : Answer) (fid : ℕ) (e : FidEntry) → entry_at (after answer) fid ≡ Some e
      → Source (session_at w conn).fids at answer fid e)
      → ((answer : Answer) (fid : ℕ) (e : FidEntry) → entry_at (after answer) fid ≡ Some e → freed ≡ Some fid → ⊥)
      → (told_after : PortAnswer → SessionState) → ((answer : Answer) → told_after (CallAnswer answer) ≡ after answer)
      → KeepsOpens w conn at freed
      (told_after (answer_of_runs w.registry (CallOn now (run_of its.held) (pass_of its.held) its.call) mark).0)
      (answer_of_runs w.registry (CallOn now (run_of its.held) (pass_of its.held) its.call) mark).1
  called_keeps after sources free told_after is =
      let g = given w.registry (run_of its.held) (pass_of its.held) (user_of its.held) (there.fids conn at its.held its.there) in
      let run : RunOf = g.run.held in
      let held : held_at w.registry.runs (run_of its.held) ≡ Some run = held_there w.registry (run_of its.held) g.key g.run g.there in
      let low : pass_of its.held < run.passes = g.gave in
      let known : nat_lt (pass_of its.held) run.passes ≡ true = grind (arith, nat_tests) in
      let ended = run_step run now (pass_of its.held) its.call (step_mark_of mark) in
      rw (held, known, is ended.0)
      (call_source run held ended.0 ended.1 (judged run now (pass_of its.held) its.call (step_mark_of mark)) (after ended.0)
      (sources ended.0) (free ended.0))
