-- Runs, passes and fids of consistent worlds are there, and every step keeps that.
use Rattle.std.proofs.Common.{◌≡◌, ◌∙◌, ℕ, zero, suc, ◌<◌, Bool, true, false, List, [], ◌∷◌, length, length-set, Option, None, Some, refl}
use Rattle.std.proofs.Common.{sym, ap, subst, rules}
use Rattle.std.specs.Prelude.{is_some, option_map, slice_index_or, slice_set}
use Rattle.std.specs.FinMap.{empty, get, gets}
use Rattle.std.proofs.lemmas.List.{length-replicate}
use Rattle.cs_fids.specs.declared.entry.FidEntry.{FidEntry}
use Rattle.cs_fids.specs.declared.entry.FidEntry.TheVariants as entry
use Rattle.cs_fids.specs.Entries.{pass_of, run_of, user_of}
use Rattle.cs_names.specs.declared.limits.TheConstants.{CONNECTIONS}
use Rattle.cs_plan.specs.Scenes.{Scene}
use Rattle.cs_run.specs.declared.answer.Answer.{Answer}
use Rattle.cs_session.specs.declared.reply.Reply.{Reply as Said}
use Rattle.cs_permit.specs.Table.{attach_table_rules}
use Rattle.cs_permit.specs.TreeNames.{tree_name_in}
use Rattle.cs_session.specs.Attaches.{attach_decision, find_question}
use Rattle.cs_permit.specs.Refusals.{Check}
use Rattle.cs_session.specs.Decisions.{request_decision}
use Rattle.cs_session.specs.Questions.{Question, FindRun, AttachTo}
use Rattle.cs_session.specs.Sessions.{Awaited, SessionState, empty_session, entry_at}
use Rattle.cs_session.specs.TableSteps.{table_stepped}
use Rattle.cs_session.specs.Steps.{FirstMove, Done, Asks, Step, FindStep, AttachStep, CallStep, CloseStep, Table, reply_and_session}
use Rattle.cs_session.specs.Steps.{first_move_by, first_move_of}
use Rattle.cs_users.specs.Rows.{Row}
use Rattle.cs_world.specs.declared.reply.Reply.{Reply}
use Rattle.cs_world.specs.declared.step.Step as t
use Rattle.cs_world.specs.declared.step.Step.TheVariants as s
use Rattle.cs_journal.specs.Runs.{RunOf}
use Rattle.cs_registry.specs.Publishing.{with_published}
use Rattle.cs_registry.specs.Registries.{Registry, with_users}
use Rattle.cs_fids.specs.Tables.{FidMap}
use Rattle.cs_registry.specs.Naming.{key_in}
use Rattle.cs_world.specs.Asking.{answer_of_runs}
use Rattle.cs_world.specs.ConnectionSteps.{session_step}
use Rattle.cs_world.specs.Marks.{WorldMark, RunMark, run_mark_of, refuses_own}
use Rattle.cs_world.specs.Consistent.{HasConsistentRuns, HasAttached}
use Rattle.cs_world.specs.Steps.{by_registry, from_front, on_connection, step_of}
use Rattle.cs_world.specs.Worlds.{World, session_at, new_world}
use Rattle.cs_world.proofs.Ending.{on_ends, publish_ends, reload_ends}
use Rattle.cs_world.proofs.Answering.{stays}
use Rattle.cs_world.proofs.Keeps.{attaches, calls, finds}
use Rattle.cs_world.proofs.Placing.{index_replicate}
use Rattle.cs_world.proofs.Standing.{Moves, moved}
use Rattle.cs_world.proofs.Tables.{Source, Kept, Walks, Opens, Reads, call_asks, call_source, close_asks, fid_in, judged_asks, left}
use Rattle.cs_world.proofs.Tables.{refused_keeps, table_idle, table_keeps}

-- ---- what a connection asks

judged_idle : (s : SessionState) (waits : Bool) (msize : Option ℕ) (rules : List Check) (refused : Bool) (q : Option Question)
    (p : Question) → first_move_of s (request_decision waits msize rules refused q) ≡ Asks p → waits ≡ false
judged_idle s true msize rules refused q p e = absurd (cc)
judged_idle s false msize rules refused q p e = refl

none_if : {A : Type 0} (o : Option A) → is_some o ≡ false → o ≡ None
none_if None is = refl
none_if (Some x) is = absurd (cc)

-- what a find asks
pub record IsFindRun (q : Question) : Type 0 where
  pub state_name : List ℕ
  pub run_name : List ℕ
  pub is : q ≡ FindRun state_name run_name

pub find_by : (o : Option (List ℕ × List ℕ)) (q : Question) → option_map (λ (name : List ℕ × List ℕ). FindRun name.0 name.1) o ≡ Some q
    → IsFindRun q
find_by None q e = absurd (cc)
find_by (Some name) q e = record { state_name = name.0; run_name = name.1; is = cc }

pub record IsAttachTo (now : ℕ) (s : SessionState) (q : Question) : Type 0 where
  pub awaited : Awaited
  pub waits : s.awaited ≡ Some awaited
  pub is : q ≡ AttachTo now awaited.run awaited.call

pub attach_asks : (now : ℕ) (s : SessionState) (o : Option Awaited) → s.awaited ≡ o → (q : Question)
    → first_move_of s (attach_decision now o) ≡ Asks q → IsAttachTo now s q
attach_asks now s None is q e = absurd (cc)
attach_asks now s (Some p) is q e = record { awaited = p; waits = is; is = cc }

-- ---- a step of a connection

module _ (w : World) (ok : HasConsistentRuns w) (conn : ℕ) where
  -- the entries that a call leaves are of runs that are there
  source_attached : (of : ℕ) (answer : Answer) (fid : ℕ) (e : FidEntry) → Source (session_at w conn).fids of answer fid e
      → HasAttached w.registry (run_of e) (pass_of e) (user_of e)
  source_attached of answer fid e (Kept there) = ok.fids conn fid e there
  source_attached of answer fid e (Walks j from number there is) =
      subst (λ x. HasAttached w.registry (run_of x) (pass_of x) (user_of x)) (sym is) (ok.fids conn j (entry.Walked from) there)
  source_attached of answer fid e (Opens from mode open_number number qid same there told is) =
      subst (λ x. HasAttached w.registry (run_of x) (pass_of x) (user_of x)) (sym is) (ok.fids conn fid (entry.Walked from) there)
  source_attached of answer fid e (Reads from place there is) =
      subst (λ x. HasAttached w.registry (run_of x) (pass_of x) (user_of x)) (sym is) (ok.fids conn fid (entry.Opened from) there)

  unmoved : (s' : SessionState) → s' ≡ session_at w conn → Moves w conn s' w.registry
  unmoved s' same =
      stays w ok conn s' (ap (λ (s : SessionState). s.awaited) same) (λ fid e there. ap (λ s. entry_at s fid) (sym same) ∙ there)

  done_moves : (now : ℕ) (x : Step) (refused : Bool) (reply : Said) (s' : SessionState)
      → first_move_by now (session_at w conn) x refused ≡ Done reply s' → Moves w conn s' w.registry
  done_moves now (FindStep m) refused reply s' e = unmoved s' (refused_keeps (session_at w conn) _ reply s' e)
  done_moves now AttachStep refused reply s' e = unmoved s' (refused_keeps (session_at w conn) _ reply s' e)
  done_moves now (CallStep m) refused reply s' e = unmoved s' (refused_keeps (session_at w conn) _ reply s' e)
  done_moves now (CloseStep fid) refused reply s' e = unmoved s' (refused_keeps (session_at w conn) _ reply s' e)
  done_moves now (Table change) refused reply s' e =
      let is : s' ≡ (table_stepped (session_at w conn) change).1 = cc in
      stays w ok conn s' (ap (λ (s : SessionState). s.awaited) is ∙ table_idle (session_at w conn) change _ refl)
      (λ fid x there. table_keeps (session_at w conn) fid x change _ refl (ap (λ (s : SessionState). get s.fids fid) (sym is) ∙ there))

  -- from what a step asks to where its answer leads
  abbrev Leads : Step → RunMark → Question → Type 0
  Leads x mark q =
      Moves w conn (reply_and_session (session_at w conn) x (answer_of_runs w.registry q mark).0).1 (answer_of_runs w.registry q mark).1

  asks_moves : (now : ℕ) (x : Step) (refused : Bool) (q : Question) (mark : RunMark)
      → first_move_by now (session_at w conn) x refused ≡ Asks q → Leads x mark q
  asks_moves now (FindStep m) refused q mark e =
      let its = find_by (tree_name_in m.aname) q (judged_asks (session_at w conn) _ refused _ q e) in
      let idle : (session_at w conn).awaited ≡ None =
      none_if (session_at w conn).awaited
      (judged_idle (session_at w conn) _ (session_at w conn).msize (attach_table_rules (session_at w conn).fids m.fid m.afid m.aname)
      refused (find_question m) q e) in
      subst (Leads (FindStep m) mark) (sym its.is) (finds w ok conn m idle mark (key_in its.state_name its.run_name))
  asks_moves now AttachStep refused q mark e =
      let its = attach_asks now (session_at w conn) (session_at w conn).awaited refl q e in
      subst (Leads AttachStep mark) (sym its.is) (attaches w ok conn its.awaited its.waits now mark)
  asks_moves now (CallStep m) refused q mark e =
      let its = call_asks now (session_at w conn) q m refused e in
      subst (Leads (CallStep m) mark) (sym its.is)
      (calls w ok conn now (run_of its.held) (pass_of its.held) its.call (user_of its.held) (ok.fids conn (fid_in m) its.held its.there)
      mark (λ told. (reply_and_session (session_at w conn) (CallStep m) told).1) (λ answer. refl)
      (λ answer fid x there. source_attached (fid_in m) answer fid x (call_source (session_at w conn).fids fid x m answer there)))
  asks_moves now (CloseStep fid) refused q mark e =
      let its = close_asks now (session_at w conn) q fid refused e in
      subst (Leads (CloseStep fid) mark) (sym its.is)
      (calls w ok conn now (run_of its.held) (pass_of its.held) its.call (user_of its.held) (ok.fids conn fid its.held its.there) mark
      (λ told. (reply_and_session (session_at w conn) (CloseStep fid) told).1) (λ answer. refl)
      (λ answer n x there. ok.fids conn n x (left (session_at w conn).fids fid n x there).1))
  asks_moves now (Table change) refused q mark e = absurd (cc)

  by_front : conn < CONNECTIONS → (now : ℕ) (x : Step) (refused : Bool) (mark : RunMark) (f : FirstMove)
      → first_move_by now (session_at w conn) x refused ≡ f → HasConsistentRuns (from_front w conn x mark f).1
  by_front inside now x refused mark (Done reply s') e = moved w ok conn inside s' w.registry (done_moves now x refused reply s' e)
  by_front inside now x refused mark (Asks q) e = moved w ok conn inside _ _ (asks_moves now x refused q mark e)

  pub connection_keeps : (now : ℕ) (x : Step) (mark : WorldMark) → HasConsistentRuns (on_connection w conn now x mark).1
  connection_keeps now x mark =
      on_ends w conn now x mark (λ q y. HasConsistentRuns y.1)
      (λ low. by_front low now x (refuses_own mark) (run_mark_of mark) (first_move_by now (session_at w conn) x (refuses_own mark)) refl)
      (λ high. ok)

-- ---- a publish

index_set_true : (xs : List Bool) (n k : ℕ) → slice_index_or xs k false ≡ true → slice_index_or (slice_set xs n true) k false ≡ true
index_set_true [] n k is = absurd (cc)
index_set_true (x ∷ xs) zero zero is = refl
index_set_true (x ∷ xs) zero (suc k) is = is
index_set_true (x ∷ xs) (suc n) zero is = is
index_set_true (x ∷ xs) (suc n) (suc k) is = index_set_true xs n k is

module _ (w : World) (ok : HasConsistentRuns w) where
  more_published : (number : ℕ) → HasConsistentRuns (record w { registry = with_published w.registry number })
  more_published number = record {
    all = ok.all;
    states = length-set w.registry.published number true ∙ ok.states;
    runs = λ place key run there. (let was = ok.runs place key run there in record {
      attaches = was.attaches;
      few = was.few;
      room = was.room;
      legal = was.legal;
      published = index_set_true w.registry.published number key.number was.published;
      fresh = was.fresh;
    });
    awaited = ok.awaited;
    fids = ok.fids;
  }

  other_users : (users : List Row) → HasConsistentRuns (record w { registry = with_users w.registry users })
  other_users users = record {
    all = ok.all;
    states = ok.states;
    runs = λ place key run there. (let was = ok.runs place key run there in record {
      attaches = was.attaches;
      few = was.few;
      room = was.room;
      legal = was.legal;
      published = was.published;
      fresh = was.fresh;
    });
    awaited = ok.awaited;
    fids = ok.fids;
  }

  -- each step keeps it
  pub step_keeps : (x : t.Step) (mark : WorldMark) → HasConsistentRuns (step_of w x mark).1
  step_keeps (s.Publish number) mark =
      publish_ends w.registry (λ (y : Reply × Registry RunOf). HasConsistentRuns (by_registry w y).1) number mark (λ fault. ok)
      (more_published number)
  step_keeps (s.Reload users) mark =
      reload_ends w.registry (λ (y : Reply × Registry RunOf). HasConsistentRuns (by_registry w y).1) users mark ok (other_users users)
  step_keeps (s.On conn now x) mark = connection_keeps w ok conn now (session_step x) mark

-- ---- a new world

abbrev no_fids : FidMap
no_fids = empty

nothing_there : (fid : ℕ) → get no_fids fid ≡ None
nothing_there fid = search (rules, gets)

-- a new world is so
pub new_is : (scene : Scene) (users : List Row) → HasConsistentRuns (new_world scene users)
new_is scene users =
    let none : (conn : ℕ) → session_at (new_world scene users) conn ≡ empty_session None =
    λ conn. index_replicate CONNECTIONS conn (empty_session None) in
    record {
      all = length-replicate CONNECTIONS (empty_session None);
      states = length-replicate (length scene.plan) false;
      runs = λ place key run there. absurd (cc);
      awaited =
          λ conn p is. absurd
          (let here : (session_at (new_world scene users) conn).awaited ≡ None = ap (λ (s : SessionState). s.awaited) (none conn) in cc);
      fids = λ conn fid e is. absurd
          (let here : entry_at (session_at (new_world scene users) conn) fid ≡ None =
          ap (λ s. entry_at s fid) (none conn) ∙ nothing_there fid in cc);
    }
