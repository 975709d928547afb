-- A new world is consistent, and each step leads from consistent worlds to consistent ones.
use Rattle.std.proofs.Common.{◌≡◌, ◌∙◌, ℕ, ◌<◌, Bool, List, length, None, Some, refl, sym, ap, subst, arith, rules}
use Rattle.std.specs.Prelude.{replicate}
use Rattle.std.specs.FinMap.{empty, get, gets}
use Rattle.cs_fids.specs.declared.entry.FidEntry.TheVariants as entry
use Rattle.cs_fids.specs.declared.fid.Opened.{Opened}
use Rattle.cs_fids.specs.FidOf.{FidOf}
use Rattle.cs_fids.specs.Tables.{FidMap}
use Rattle.cs_journal.specs.Runs.{RunOf}
use Rattle.cs_names.specs.declared.limits.TheConstants.{CONNECTIONS}
use Rattle.cs_permit.specs.TreeNames.{tree_name_in}
use Rattle.cs_plan.specs.Scenes.{Scene}
use Rattle.cs_registry.specs.Registries.{Registry, with_users}
use Rattle.cs_registry.specs.Registries as registries
use Rattle.cs_registry.specs.Publishing.{with_published}
use Rattle.cs_session.specs.declared.reply.Reply.{Reply as Said}
use Rattle.cs_session.specs.Questions.{Question, CallAnswer}
use Rattle.cs_session.specs.Sessions.{SessionState, empty_session, entry_at}
use Rattle.cs_session.specs.Steps.{FirstMove, Done, Asks, Step, FindStep, AttachStep, CallStep, CloseStep, Table, reply_and_session}
use Rattle.cs_session.specs.Steps.{first_move_by}
use Rattle.cs_session.specs.TableSteps.{table_stepped}
use Rattle.cs_users.specs.Rows.{Row}
use Rattle.cs_world.specs.declared.reply.Reply.{Reply}
use Rattle.cs_world.specs.declared.step.Step as t
use Rattle.cs_world.specs.declared.step.Step.TheVariants as s
use Rattle.cs_world.specs.ConnectionSteps.{session_step}
use Rattle.cs_world.specs.Marks.{WorldMark, RunMark, run_mark_of, refuses_own}
use Rattle.cs_world.specs.Consistent.{IsConsistent, HaveTheirOpens}
use Rattle.cs_world.specs.Steps.{by_registry, from_front, on_connection, step_of}
use Rattle.cs_world.specs.Worlds.{World, session_at, new_world}
use Rattle.cs_world.proofs.Ending.{on_ends, publish_ends, reload_ends}
use Rattle.cs_world.proofs.Invariant.{attach_asks, find_by, new_is, step_keeps}
use Rattle.cs_world.proofs.OpenFids.{KeepsOpens, attach_has, attached_open, called_keeps, find_has, found_open, kept, unopened}
use Rattle.cs_world.proofs.Placing.{index_replicate}
use Rattle.cs_world.proofs.Tables.{Kept, call_asks, call_source, close_asks, fid_in, freed_by, freed_is_free, judged_asks, left}
use Rattle.cs_world.proofs.Tables.{refused_keeps, table_keeps}

module _ (w : World) (ok : IsConsistent w) (conn : ℕ) (inside : conn < CONNECTIONS) where
  within : conn < length w.connections
  within = omega (arith, ok.there.all)

  -- with no fid that wasn't open
  stays : (s' : SessionState)
      → ((fid : ℕ) (f : FidOf Opened) → entry_at s' fid ≡ Some (entry.Opened f) → entry_at (session_at w conn) fid ≡ Some (entry.Opened f))
      → KeepsOpens w conn 0 None s' w.registry
  stays s' same = unopened w ok.opens conn s' w.registry (λ place pass number h. h) same

  unmoved : (s' : SessionState) → s' ≡ session_at w conn → KeepsOpens w conn 0 None s' w.registry
  unmoved s' same = stays s' (λ fid f there. ap (λ s. entry_at s fid) (sym same) ∙ there)

  done_opens : (now : ℕ) (x : Step) (refused : Bool) (reply : Said) (s' : SessionState)
      → first_move_by now (session_at w conn) x refused ≡ Done reply s' → KeepsOpens w conn 0 None s' w.registry
  done_opens now (FindStep m) refused reply s' e = unmoved s' (refused_keeps (session_at w conn) _ reply s' e)
  done_opens now AttachStep refused reply s' e = unmoved s' (refused_keeps (session_at w conn) _ reply s' e)
  done_opens now (CallStep m) refused reply s' e = unmoved s' (refused_keeps (session_at w conn) _ reply s' e)
  done_opens now (CloseStep fid) refused reply s' e = unmoved s' (refused_keeps (session_at w conn) _ reply s' e)
  done_opens now (Table change) refused reply s' e =
      let is : s' ≡ (table_stepped (session_at w conn) change).1 = cc in
      stays s' (λ fid f there. table_keeps (session_at w conn) fid (entry.Opened f) change _ refl
      (ap (λ (s : SessionState). get s.fids fid) (sym is) ∙ there))

  abbrev Opens : Step → RunMark → Question → Type 0
  Opens x mark q = HaveTheirOpens (from_front w conn x mark (Asks q)).1

  asks_opens : (now : ℕ) (x : Step) (refused : Bool) (q : Question) (mark : RunMark)
      → first_move_by now (session_at w conn) x refused ≡ Asks q → Opens x mark q
  asks_opens now (FindStep m) refused q mark e =
      let its = find_by (tree_name_in m.aname) q (judged_asks (session_at w conn) _ refused _ q e) in
      subst (Opens (FindStep m) mark) (sym its.is)
      (kept w ok.opens conn within 0 None _ _
      (unopened w ok.opens conn _ _ (λ place pass number h. find_has w.registry its.state_name its.run_name mark place pass number h)
      (λ fid f there. found_open (session_at w conn) m _ fid f there)))
  asks_opens now AttachStep refused q mark e =
      let its = attach_asks now (session_at w conn) (session_at w conn).awaited refl q e in
      subst (Opens AttachStep mark) (sym its.is)
      (kept w ok.opens conn within 0 None _ _
      (unopened w ok.opens conn _ _
      (λ place pass number h. attach_has w.registry now its.awaited.run its.awaited.call mark place pass number h)
      (λ fid f there. attached_open (session_at w conn) (session_at w conn).awaited _ fid f there)))
  asks_opens now (CallStep m) refused q mark e =
      let its = call_asks now (session_at w conn) q m refused e in
      subst (Opens (CallStep m) mark) (sym its.is) (kept w ok.opens conn within (fid_in m) (freed_by m) _ _
      (called_keeps w ok.there ok.opens conn now (fid_in m) (freed_by m) q its mark
      (λ answer. (reply_and_session (session_at w conn) (CallStep m) (CallAnswer answer)).1)
      (λ answer fid x there. call_source (session_at w conn).fids fid x m answer there)
      (λ answer fid x there gone. freed_is_free (session_at w conn).fids m answer fid x there gone)
      (λ told. (reply_and_session (session_at w conn) (CallStep m) told).1) (λ answer. refl)))
  asks_opens now (CloseStep fid) refused q mark e =
      let its = close_asks now (session_at w conn) q fid refused e in
      subst (Opens (CloseStep fid) mark) (sym its.is) (kept w ok.opens conn within fid (Some fid) _ _
      (called_keeps w ok.there ok.opens conn now fid (Some fid) q its mark
      (λ answer. (reply_and_session (session_at w conn) (CloseStep fid) (CallAnswer answer)).1)
      (λ answer n x there. Kept (left (session_at w conn).fids fid n x there).1)
      (λ answer n x there gone. (left (session_at w conn).fids fid n x there).0 (let same : Some fid ≡ Some n = gone in cc))
      (λ told. (reply_and_session (session_at w conn) (CloseStep fid) told).1) (λ answer. refl)))
  asks_opens now (Table change) refused q mark e = absurd (cc)

  by_front : (now : ℕ) (x : Step) (refused : Bool) (mark : RunMark) (f : FirstMove) → first_move_by now (session_at w conn) x refused ≡ f
      → HaveTheirOpens (from_front w conn x mark f).1
  by_front now x refused mark (Done reply s') e = kept w ok.opens conn within 0 None s' w.registry (done_opens now x refused reply s' e)
  by_front now x refused mark (Asks q) e = asks_opens now x refused q mark e

module _ (w : World) (ok : IsConsistent w) where
  connection_opens : (conn now : ℕ) (x : Step) (mark : WorldMark) → HaveTheirOpens (on_connection w conn now x mark).1
  connection_opens conn now x mark =
      on_ends w conn now x mark (λ q y. HaveTheirOpens y.1)
      (λ low. by_front w ok conn low now x (refuses_own mark) (run_mark_of mark)
      (first_move_by now (session_at w conn) x (refuses_own mark)) refl) (λ high. ok.opens)

  more_published : (number : ℕ) → HaveTheirOpens (record w { registry = with_published w.registry number })
  more_published number = record { stand = ok.opens.stand; own = ok.opens.own }

  other_users : (users : List Row) → HaveTheirOpens (record w { registry = with_users w.registry users })
  other_users users = record { stand = ok.opens.stand; own = ok.opens.own }

  opens_by : (x : t.Step) (mark : WorldMark) → HaveTheirOpens (step_of w x mark).1
  opens_by (s.Publish number) mark =
      publish_ends w.registry (λ (y : Reply × Registry RunOf). HaveTheirOpens (by_registry w y).1) number mark (λ fault. ok.opens)
      (more_published number)
  opens_by (s.Reload users) mark =
      reload_ends w.registry (λ (y : Reply × Registry RunOf). HaveTheirOpens (by_registry w y).1) users mark ok.opens (other_users users)
  opens_by (s.On conn now x) mark = connection_opens conn now (session_step x) mark

  -- each step
  pub stays_consistent : (x : t.Step) (mark : WorldMark) → IsConsistent (step_of w x mark).1
  stays_consistent x mark = record { there = step_keeps w ok.there x mark; opens = opens_by x mark }

abbrev no_fids : FidMap
no_fids = empty

nothing_there : (fid : ℕ) → get no_fids fid ≡ None
nothing_there fid = search (rules, gets)

-- a new world
pub new_is_consistent : (scene : Scene) (users : List Row) → IsConsistent (new_world scene users)
new_is_consistent scene users =
    let none : (conn fid : ℕ) → entry_at (session_at (new_world scene users) conn) fid ≡ None =
    λ conn fid. ap (λ s. entry_at s fid) (index_replicate CONNECTIONS conn (empty_session None)) ∙ nothing_there fid in
    record {
      there = new_is scene users;
      opens = record {
        stand = λ conn fid f there. absurd (let here = none conn fid in cc);
        own = λ conn fid other n f g there other_there run number. absurd (let here = none conn fid in cc);
      };
    }

pub by_new : (scene : Scene) (users : List Row) (registry : Registry RunOf) (connections : List SessionState)
    → registry ≡ registries.empty scene users → connections ≡ replicate CONNECTIONS (empty_session None) → IsConsistent (record {
      registry = registry;
      connections = connections;
    })
by_new scene users registry connections e f = rw (e, f) (new_is_consistent scene users)
