-- The origin of the fids of a connection, after a step.
use Rattle.std.proofs.Common.{◌≡◌, ◌≢◌, ◌∙◌, ℕ, ◌==◌, Bool, true, false, cond, Option, Some, None, Result, Ok, Err, refl, sym, ap, subst}
use Rattle.std.proofs.Common.{rules, ◌⊎◌, inl, inr}
use Rattle.std.specs.Prelude.{is_none, is_some, option_and_then, option_map, List}
use Rattle.std.specs.Option.{option_map_or}
use Rattle.std.specs.Cmp.{nat_cmp_total, unsigned_tied}
use Rattle.std.specs.FinMap.{empty, get, gets, insert, remove, get-insert, get-remove}
use Rattle.std.proofs.lemmas.Bool.{eqb-true, eqb-false}
use Rattle.cs_fids.specs.declared.entry.FidEntry.{FidEntry}
use Rattle.cs_fids.specs.declared.entry.FidEntry.TheVariants as entry
use Rattle.cs_fids.specs.declared.fid.Opened.{Opened}
use Rattle.cs_fids.specs.declared.fid.Walked.{Walked}
use Rattle.cs_fids.specs.declared.place.Place.{Place}
use Rattle.cs_fids.specs.Entries.{as_opened, as_walked, number_of, pass_of, run_of, user_of}
use Rattle.cs_fids.specs.FidOf.{FidOf}
use Rattle.cs_fids.specs.Fids.{moved_to, opened_fid, with_place}
use Rattle.cs_fids.specs.Tables.{FidMap, least_open}
use Rattle.cs_names.specs.declared.rule_id.RuleId.{RuleId}
use Rattle.cs_permit.specs.declared.call.Call.{Call}
use Rattle.cs_permit.specs.declared.call.Call.TheVariants as c
use Rattle.cs_run.specs.declared.answer.Answer.{Answer}
use Rattle.cs_run.specs.declared.answer.Answer.TheVariants as a
use Rattle.cs_run.specs.Outcomes.{closed_open_number}
use Rattle.cs_run.specs.Walks.{WalkResult}
use Rattle.cs_permit.specs.Refusals.{first_failing}
use Rattle.cs_session.specs.declared.message.CallMessage.{CallMessage}
use Rattle.cs_session.specs.declared.message.CallMessage.TheVariants as m
use Rattle.cs_session.specs.declared.message.CreateMessage.{CreateMessage}
use Rattle.cs_session.specs.declared.message.TableStep.{TableStep}
use Rattle.cs_session.specs.declared.message.TableStep.TheVariants as t
use Rattle.cs_session.specs.declared.reply.Reply.{Reply}
use Rattle.cs_session.specs.Calls.{call_after}
use Rattle.cs_session.specs.Decisions.{decide, opened_at, walked_at}
use Rattle.cs_session.specs.Names.{file_in}
use Rattle.cs_session.specs.Opens.{create_after, create_named, open_after, open_left}
use Rattle.cs_session.specs.Questions.{Question, CallOn}
use Rattle.cs_session.specs.Reads.{read_after, read_left}
use Rattle.cs_session.specs.Sessions.{SessionState, entry_at}
use Rattle.cs_session.specs.Steps.{Done, Asks, CallStep, CloseStep, first_move_of, first_move_by}
use Rattle.cs_session.specs.TableSteps.{clunk_left, clunk_rules, table_stepped, after_change}
use Rattle.cs_session.specs.Walks.{walk_after, walk_left}
use Rattle.cs_wire.specs.declared.message.Qid.{Qid}

-- ---- one entry changes

module _ (fids : FidMap) (n k : ℕ) where
  inserted_by : (b : Bool) (new e : FidEntry) → (k == n) ≡ b → cond b (Some new) (get fids k) ≡ Some e → ((k ≡ n) × (e ≡ new))
      ⊎ (get fids k ≡ Some e)
  inserted_by true new e is there = inl (eqb-true k n is, cc)
  inserted_by false new e is there = inr there

  pub inserted : (new e : FidEntry) → get (insert fids n new) k ≡ Some e → ((k ≡ n) × (e ≡ new)) ⊎ (get fids k ≡ Some e)
  inserted new e there =
      inserted_by (k == n) new e refl
      (sym (get-insert nat_cmp_total fids n new k ∙ ap (λ b. cond b (Some new) (get fids k)) (unsigned_tied k n)) ∙ there)

  left_by : (b : Bool) (e : FidEntry) → (k == n) ≡ b → cond b None (get fids k) ≡ Some e → (k ≢ n) × (get fids k ≡ Some e)
  left_by true e is there = absurd (cc)
  left_by false e is there = (eqb-false k n is, there)

  pub left : (e : FidEntry) → get (remove fids n) k ≡ Some e → (k ≢ n) × (get fids k ≡ Some e)
  left e there =
      left_by (k == n) e refl (sym (get-remove nat_cmp_total fids n k ∙ ap (λ b. cond b None (get fids k)) (unsigned_tied k n)) ∙ there)

abbrev no_fids : FidMap
no_fids = empty

none_there : (k : ℕ) → get no_fids k ≡ None
none_there k = search (rules, gets)

walked_there : (o : Option FidEntry) (f : FidOf Walked) → option_and_then as_walked o ≡ Some f → o ≡ Some (entry.Walked f)
walked_there None f is = absurd (cc)
walked_there (Some (entry.Walked x)) f is = cc
walked_there (Some (entry.Opened x)) f is = absurd (cc)

opened_there : (o : Option FidEntry) (f : FidOf Opened) → option_and_then as_opened o ≡ Some f → o ≡ Some (entry.Opened f)
opened_there None f is = absurd (cc)
opened_there (Some (entry.Walked x)) f is = absurd (cc)
opened_there (Some (entry.Opened x)) f is = cc

-- ---- the run and the fid of a call

-- a call on the run of the entry of a fid, under its pass; it ends no open but that of a fid that is free then
pub record IsAsked (fids : FidMap) (now fid : ℕ) (freed : Option ℕ) (q : Question) : Type 0 where
  pub held : FidEntry
  pub there : get fids fid ≡ Some held
  pub call : Call
  pub is : q ≡ CallOn now (run_of held) (pass_of held) call
  pub ends : (number : ℕ) → closed_open_number call ≡ Some number → (f : FidOf Opened) × (held ≡ entry.Opened f)
      × (f.state.open_number ≡ number) × (freed ≡ Some fid)

pub judged_asks : (s : SessionState) (o : Option RuleId) (refused : Bool) (q : Option Question) (p : Question)
    → first_move_of s (decide o refused q) ≡ Asks p → q ≡ Some p
judged_asks s (Some rule) refused q p e = absurd (cc)
judged_asks s None true q p e = absurd (cc)
judged_asks s None false None p e = absurd (cc)
judged_asks s None false (Some q) p e = cc

-- the fid that a call is of, and the one that is free after it
pub fid_in : CallMessage → ℕ
fid_in (m.Walk x) = x.fid
fid_in (m.Open x) = x.fid
fid_in (m.Create x) = x.fid
fid_in (m.Read x) = x.fid
fid_in (m.Write x) = x.fid
fid_in (m.Remove fid) = fid
fid_in (m.Stat fid) = fid
fid_in (m.Wstat x) = x.fid

pub freed_by : CallMessage → Option ℕ
freed_by (m.Remove fid) = Some fid
freed_by other = None

abbrev open_in : FidEntry → Option ℕ
open_in x = option_map (λ (f : FidOf Opened). f.state.open_number) (as_opened x)

ended_open : (x : FidEntry) (number : ℕ) → open_in x ≡ Some number → (f : FidOf Opened) × (x ≡ entry.Opened f)
    × (f.state.open_number ≡ number)
ended_open (entry.Walked f) number is = absurd (cc)
ended_open (entry.Opened f) number is = (f, refl, cc)

module _ (now : ℕ) (s : SessionState) (q : Question) (fid : ℕ) (freed : Option ℕ) where
  by_walked : (ask : FidOf Walked → Call) → ((f : FidOf Walked) → closed_open_number (ask f) ≡ None) → (o : Option (FidOf Walked))
      → walked_at s.fids fid ≡ o → option_map (λ (f : FidOf Walked). CallOn now f.run f.pass (ask f)) o ≡ Some q
      → IsAsked s.fids now fid freed q
  by_walked ask ends None is h = absurd (cc)
  by_walked ask ends (Some f) is h = record {
    held = entry.Walked f;
    there = walked_there (get s.fids fid) f is;
    call = ask f;
    is = cc;
    ends = λ number some. absurd (let none = ends f in cc);
  }

  by_opened : (ask : FidOf Opened → Call) → ((f : FidOf Opened) → closed_open_number (ask f) ≡ None) → (o : Option (FidOf Opened))
      → opened_at s.fids fid ≡ o → option_map (λ (f : FidOf Opened). CallOn now f.run f.pass (ask f)) o ≡ Some q
      → IsAsked s.fids now fid freed q
  by_opened ask ends None is h = absurd (cc)
  by_opened ask ends (Some f) is h = record {
    held = entry.Opened f;
    there = opened_there (get s.fids fid) f is;
    call = ask f;
    is = cc;
    ends = λ number some. absurd (let none = ends f in cc);
  }

  by_entry : (ask : FidEntry → Call) → ((f : FidEntry) → closed_open_number (ask f) ≡ None) → (o : Option FidEntry) → get s.fids fid ≡ o
      → option_map (λ (f : FidEntry). CallOn now (run_of f) (pass_of f) (ask f)) o ≡ Some q → IsAsked s.fids now fid freed q
  by_entry ask ends None is h = absurd (cc)
  by_entry ask ends (Some f) is h = record {
    held = f;
    there = is;
    call = ask f;
    is = cc;
    ends = λ number some. absurd (let none = ends f in cc);
  }

  create_asks : (x : CreateMessage) → fid ≡ x.fid → (o : Option (List ℕ)) → option_and_then (create_named now s.fids x) o ≡ Some q
      → IsAsked s.fids now fid freed q
  create_asks x same None h = absurd (cc)
  create_asks x same (Some name) h =
      by_walked _ (λ f. refl) (walked_at s.fids fid) refl
      (subst (λ n. option_map (λ (f : FidOf Walked). CallOn now f.run f.pass (c.Create (record {
        number = f.number;
        user = f.user;
        name = name;
        perm = x.perm;
        mode = x.mode;
      }))) (walked_at s.fids n) ≡ Some q) (sym same) h)

module _ (now : ℕ) (s : SessionState) (q : Question) where
  remove_asks : (fid : ℕ) (o : Option FidEntry) → get s.fids fid ≡ o
      → option_map (λ (f : FidEntry). CallOn now (run_of f) (pass_of f) (c.Remove (record {
        number = number_of f;
        user = user_of f;
        open_number = open_in f;
      }))) o ≡ Some q → IsAsked s.fids now fid (Some fid) q
  remove_asks fid None is h = absurd (cc)
  remove_asks fid (Some f) is h = record {
    held = f;
    there = is;
    call = c.Remove (record { number = number_of f; user = user_of f; open_number = open_in f });
    is = cc;
    ends = λ number some. (let its = ended_open f number some in (its.0, its.1, its.2, refl));
  }

  clunk_asks : (fid : ℕ) (o : Option (FidOf Opened)) → opened_at s.fids fid ≡ o
      → option_map (λ (f : FidOf Opened). CallOn now f.run f.pass (c.Close (record {
        open_number = f.state.open_number;
        user = f.user;
      }))) o ≡ Some q → IsAsked s.fids now fid (Some fid) q
  clunk_asks fid None is h = absurd (cc)
  clunk_asks fid (Some f) is h = record {
    held = entry.Opened f;
    there = opened_there (get s.fids fid) f is;
    call = c.Close (record { open_number = f.state.open_number; user = f.user });
    is = cc;
    ends = λ number some. (f, refl, cc, refl);
  }

  -- a call is of a fid that is there
  pub call_asks : (x : CallMessage) (refused : Bool) → first_move_by now s (CallStep x) refused ≡ Asks q
      → IsAsked s.fids now (fid_in x) (freed_by x) q
  unfolding fid_in freed_by
  call_asks (m.Walk x) refused h = by_walked now s q x.fid None _ (λ f. refl) (walked_at s.fids x.fid) refl (judged_asks s _ refused _ q h)
  call_asks (m.Open x) refused h = by_walked now s q x.fid None _ (λ f. refl) (walked_at s.fids x.fid) refl (judged_asks s _ refused _ q h)
  call_asks (m.Create x) refused h = create_asks now s q x.fid None x refl (file_in x.name) (judged_asks s _ refused _ q h)
  call_asks (m.Read x) refused h = by_opened now s q x.fid None _ (λ f. refl) (opened_at s.fids x.fid) refl (judged_asks s _ _ _ q h)
  call_asks (m.Write x) refused h = by_opened now s q x.fid None _ (λ f. refl) (opened_at s.fids x.fid) refl (judged_asks s _ refused _ q h)
  call_asks (m.Remove fid) refused h = remove_asks fid (get s.fids fid) refl (judged_asks s _ false _ q h)
  call_asks (m.Stat fid) refused h = by_entry now s q fid None _ (λ f. refl) (get s.fids fid) refl (judged_asks s _ false _ q h)
  call_asks (m.Wstat x) refused h = by_entry now s q x.fid None _ (λ f. refl) (get s.fids x.fid) refl (judged_asks s _ refused _ q h)

  pub close_asks : (fid : ℕ) (refused : Bool) → first_move_by now s (CloseStep fid) refused ≡ Asks q → IsAsked s.fids now fid (Some fid) q
  close_asks fid refused h = clunk_asks fid (opened_at s.fids fid) refl (judged_asks s _ false _ q h)

-- ---- what a call leaves

-- an entry that a call leaves: one that was there, one that goes on from a fid there, or one of an open that the answer names
pub data Source (fids : FidMap) (fid : ℕ) (answer : Answer) (k : ℕ) (e : FidEntry) : Type 0 where
  Kept : get fids k ≡ Some e → Source fids fid answer k e
  Walks : (j : ℕ) (from : FidOf Walked) (number : ℕ) → get fids j ≡ Some (entry.Walked from) → e ≡ entry.Walked (moved_to from number)
      → Source fids fid answer k e
  Opens : (from : FidOf Walked) (mode open_number number : ℕ) (qid : Qid) → k ≡ fid → get fids k ≡ Some (entry.Walked from)
      → answer ≡ a.Opened qid open_number number → e ≡ entry.Opened (opened_fid (moved_to from number) mode open_number)
      → Source fids fid answer k e
  Reads : (from : FidOf Opened) (place : Place) → get fids k ≡ Some (entry.Opened from) → e ≡ entry.Opened (with_place from place)
      → Source fids fid answer k e

module _ (fids : FidMap) (k : ℕ) (e : FidEntry) where
  walk_source : (fid newfid : ℕ) (o : Option (FidOf Walked)) (way : WalkResult) (stopped : Bool) → walked_at fids fid ≡ o
      → is_some way.stopped ≡ stopped → get (walk_left fids newfid o way) k ≡ Some e → Source fids fid (a.Walked way) k e
  walk_source fid newfid None way stopped is stops there = Kept there
  walk_source fid newfid (Some f) way true is stops there = Kept (rw stops at there)
  walk_source fid newfid (Some f) way false is stops there =
      elim (inserted fids newfid k (entry.Walked (moved_to f way.last)) e (rw stops at there)) [
        | inl new ↦ Walks fid f way.last (walked_there (get fids fid) f is) new.1
        | inr old ↦ Kept old
      ]

  open_source : (fid mode open_number number : ℕ) (qid : Qid) (o : Option (FidOf Walked)) → walked_at fids fid ≡ o
      → get (open_left fids fid o mode open_number number) k ≡ Some e → Source fids fid (a.Opened qid open_number number) k e
  open_source fid mode open_number number qid None is there = Kept there
  open_source fid mode open_number number qid (Some f) is there =
      elim (inserted fids fid k (entry.Opened (opened_fid (moved_to f number) mode open_number)) e there) [
        | inl new ↦ Opens f mode open_number number qid new.0 (ap (get fids) new.0 ∙ walked_there (get fids fid) f is) refl new.1
        | inr old ↦ Kept old
      ]

  read_source : (fid : ℕ) (answer : Answer) (o : Option (FidOf Opened)) (place : Option Place) → opened_at fids fid ≡ o
      → get (read_left fids fid o place) k ≡ Some e → Source fids fid answer k e
  read_source fid answer None place is there = Kept there
  read_source fid answer (Some f) None is there = Kept there
  read_source fid answer (Some f) (Some place) is there =
      elim (inserted fids fid k (entry.Opened (with_place f place)) e there) [
        | inl new ↦ Reads f place (ap (get fids) new.0 ∙ opened_there (get fids fid) f is) new.1
        | inr old ↦ Kept old
      ]

  walked_source : (fid newfid : ℕ) (answer : Answer) → get (walk_after fids fid newfid answer).1 k ≡ Some e → Source fids fid answer k e
  walked_source fid newfid (a.Walked way) there = walk_source fid newfid (walked_at fids fid) way (is_some way.stopped) refl refl there
  walked_source fid newfid answer there = Kept there

  opened_source : (fid mode : ℕ) (answer : Answer) → get (open_after fids fid mode answer).1 k ≡ Some e → Source fids fid answer k e
  opened_source fid mode (a.Opened qid open_number number) there =
      open_source fid mode open_number number qid (walked_at fids fid) refl there
  opened_source fid mode answer there = Kept there

  created_source : (fid mode : ℕ) (answer : Answer) → get (create_after fids fid mode answer).1 k ≡ Some e → Source fids fid answer k e
  created_source fid mode (a.Opened qid open_number number) there =
      open_source fid mode open_number number qid (walked_at fids fid) refl there
  created_source fid mode answer there = Kept there

  data_source : (fid : ℕ) (answer : Answer) → get (read_after fids fid answer).1 k ≡ Some e → Source fids fid answer k e
  data_source fid (a.Data d) there = read_source fid (a.Data d) (opened_at fids fid) d.place refl there
  data_source fid answer there = Kept there

  pub call_source : (x : CallMessage) (answer : Answer) → get (call_after fids x answer).1 k ≡ Some e → Source fids (fid_in x) answer k e
  unfolding fid_in
  call_source (m.Walk x) answer there = walked_source x.fid x.newfid answer there
  call_source (m.Open x) answer there = opened_source x.fid x.mode answer there
  call_source (m.Create x) answer there = created_source x.fid x.mode answer there
  call_source (m.Read x) answer there = data_source x.fid answer there
  call_source (m.Write x) answer there = Kept there
  call_source (m.Remove fid) answer there = Kept (left fids fid k e there).1
  call_source (m.Stat fid) answer there = Kept there
  call_source (m.Wstat x) answer there = Kept there

-- the fid that a call frees is free
pub freed_is_free : (fids : FidMap) (x : CallMessage) (answer : Answer) (k : ℕ) (f : FidEntry) → get (call_after fids x answer).1 k ≡ Some f
    → freed_by x ≡ Some k → ⊥
unfolding freed_by
freed_is_free fids (m.Remove fid) answer k f there is =
    (left fids fid k f there).0 (ap (λ (o : Option ℕ). option_map_or (λ (n : ℕ). n) o k) (sym is))
freed_is_free fids (m.Walk x) answer k f there is = cc
freed_is_free fids (m.Open x) answer k f there is = cc
freed_is_free fids (m.Create x) answer k f there is = cc
freed_is_free fids (m.Read x) answer k f there is = cc
freed_is_free fids (m.Write x) answer k f there is = cc
freed_is_free fids (m.Stat fid) answer k f there is = cc
freed_is_free fids (m.Wstat x) answer k f there is = cc

-- ---- a step that asks nothing

pub refused_keeps : (s : SessionState) (j : Result Question Reply) (reply : Reply) (s' : SessionState) → first_move_of s j ≡ Done reply s'
    → s' ≡ s
refused_keeps s (Err told) reply s' e = cc
refused_keeps s (Ok q) reply s' e = absurd (cc)

module _ (s : SessionState) (k : ℕ) (e : FidEntry) where
  clunk_keeps : (fid : ℕ) (o : Option RuleId) → get (clunk_left s.fids fid o) k ≡ Some e → get s.fids k ≡ Some e
  clunk_keeps fid (Some rule) there = there
  clunk_keeps fid None there = (left s.fids fid k e there).1

  nothing : get no_fids k ≡ Some e → get s.fids k ≡ Some e
  nothing there = absurd (let none : get no_fids k ≡ None = none_there k in cc)

  tabled_keeps : (x : TableStep) (b : Bool) → (is_none s.msize ≡ b) → (c : Bool) → is_some (least_open s.fids) ≡ c
      → get (after_change s x).1.fids k ≡ Some e → get s.fids k ≡ Some e
  tabled_keeps (t.Clunk fid) true n c o there = rw n at there
  tabled_keeps (t.Clunk fid) false n c o there = clunk_keeps fid (first_failing (clunk_rules s.fids fid)) (rw n at there)
  tabled_keeps (t.Version msize version) b n true o there = rw o at there
  tabled_keeps (t.Version msize version) b n false o there = nothing (rw o at there)
  tabled_keeps t.HangUp b n true o there = rw o at there
  tabled_keeps t.HangUp b n false o there = nothing (rw o at there)

  pub table_keeps : (x : TableStep) (b : Bool) → is_some s.awaited ≡ b → get (table_stepped s x).1.fids k ≡ Some e → get s.fids k ≡ Some e
  table_keeps x true is there = rw is at there
  table_keeps x false is there = tabled_keeps x _ refl _ refl (rw is at there)

none_if : {A : Type 0} (o : Option A) → is_some o ≡ false → o ≡ None
none_if None is = refl
none_if (Some x) is = absurd (cc)

module _ (s : SessionState) where
  tabled_idle : (x : TableStep) (b : Bool) → (is_none s.msize ≡ b) → (c : Bool) → is_some (least_open s.fids) ≡ c → s.awaited ≡ None
      → (after_change s x).1.awaited ≡ s.awaited
  tabled_idle (t.Clunk fid) true n c o idle = rw n refl
  tabled_idle (t.Clunk fid) false n c o idle = rw n refl
  tabled_idle (t.Version msize version) b n true o idle = rw o refl
  tabled_idle (t.Version msize version) b n false o idle = rw o (sym idle)
  tabled_idle t.HangUp b n true o idle = rw o refl
  tabled_idle t.HangUp b n false o idle = rw o (sym idle)

  pub table_idle : (x : TableStep) (b : Bool) → is_some s.awaited ≡ b → (table_stepped s x).1.awaited ≡ s.awaited
  table_idle x true is = rw is refl
  table_idle x false is = rw is (tabled_idle x _ refl _ refl (none_if s.awaited is))
