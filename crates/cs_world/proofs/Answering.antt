-- What the answer to a connection's question makes of a consistent world.
use Rattle.std.proofs.Common.{◌≡◌, ◌≢◌, ◌∙◌, ℕ, ◌+◌, ◌<◌, ◌≤◌, ◌==◌, Bool, true, false, List, Option, Some, IsSome, refl, sym, ap, subst}
use Rattle.std.proofs.Common.{arith, ◌⊎◌, inl, inr}
use Rattle.std.specs.Prelude.{slice_get}
use Rattle.std.specs.Option.{option_map_or}
use Rattle.std.proofs.lemmas.Bool.{eqb-true, eqb-false}
use Rattle.cs_fids.specs.declared.entry.FidEntry.{FidEntry}
use Rattle.cs_fids.specs.Entries.{pass_of, run_of, user_of}
use Rattle.cs_journal.specs.Runs.{RunOf}
use Rattle.cs_names.specs.declared.limits.TheConstants.{RUN_ATTACHES}
use Rattle.cs_registry.specs.declared.found.Found.{Found}
use Rattle.cs_registry.specs.Keys.{Key}
use Rattle.cs_registry.specs.Registries.{Registry}
use Rattle.cs_registry.specs.Runs.{change, held_at}
use Rattle.cs_session.specs.Sessions.{Awaited, SessionState, entry_at}
use Rattle.cs_world.specs.Consistent.{HasConsistentRuns, HasAttached, IsAttachedAs, awaits}
use Rattle.cs_world.specs.Worlds.{World, session_at}
use Rattle.cs_world.proofs.Judging.{IsSound}
use Rattle.cs_world.proofs.Placing.{get_set_same}
use Rattle.cs_world.proofs.Reached.{change_other}
use Rattle.cs_world.proofs.Standing.{Came, Moves, Stood, given, has_attached, is_there, one_if, stands}

-- ---- the registry stays, and no fid is new

module _ (w : World) (ok : HasConsistentRuns w) (conn : ℕ) (s' : SessionState) (same : s'.awaited ≡ (session_at w conn).awaited) where
  same_count : (place : ℕ) → one_if (awaits place s') ≡ one_if (awaits place (session_at w conn))
  same_count place = ap (λ (o : Option Awaited). one_if (option_map_or (λ (p : Awaited). p.run == place) o false)) same

  pub stays : ((fid : ℕ) (e : FidEntry) → entry_at s' fid ≡ Some e → entry_at (session_at w conn) fid ≡ Some e) → Moves w conn s' w.registry
  stays kept = record {
    scene = refl;
    published = refl;
    runs = λ place key run there. Stood run there refl (λ h. h) (let c = same_count place in omega (arith, c)) (λ f. f);
    attached = λ place pass user h. h;
    there = λ place h. h;
    awaited = λ p waits. ok.awaited conn p (sym same ∙ waits);
    fids = λ fid e there. ok.fids conn fid e (kept fid e there);
  }

-- ---- one run changes

-- the fid is of the run at that place, which gave its pass and attached its user under it
pub record IsOfRun (place : ℕ) (run : RunOf) (e : FidEntry) : Type 0 where
  pub here : run_of e ≡ place
  pub gave : pass_of e < run.passes
  pub attached : IsAttachedAs run (pass_of e) (user_of e)

module _ (w : World) (ok : HasConsistentRuns w) (conn n : ℕ) (key : Key) (run : Found RunOf)
    (is : slice_get w.registry.runs n ≡ Some (key, run)) (new : Found RunOf → Found RunOf) (s' : SessionState) where
  abbrev after : Registry RunOf
  after = record w.registry { runs = change new n w.registry.runs }

  there_now : slice_get after.runs n ≡ Some (key, new run)
  there_now = rw is (get_set_same w.registry.runs n (key, new run) (key, run) is)

  elsewhere : (place : ℕ) → place ≢ n → slice_get after.runs place ≡ slice_get w.registry.runs place
  elsewhere place other = change_other new w.registry.runs n place other

  -- what the change has to keep
  pub record Changes : Type 0 where
    pub fresh : (new run).held.fresh ≡ run.held.fresh
    pub room : IsSound run.held → IsSound (new run).held
    pub more : run.held.passes ≤ (new run).held.passes
    pub attached : (pass : ℕ) (user : List ℕ) → IsAttachedAs run.held pass user → IsAttachedAs (new run).held pass user
    pub own : (new run).held.passes + one_if (awaits n s') + run.finds
        ≤ run.held.passes + one_if (awaits n (session_at w conn)) + (new run).finds
    pub others : (place : ℕ) → place ≢ n → one_if (awaits place s') ≤ one_if (awaits place (session_at w conn))
    pub few : run.finds ≤ RUN_ATTACHES → (new run).finds ≤ RUN_ATTACHES
    pub awaited : (p : Awaited) → s'.awaited ≡ Some p → ((session_at w conn).awaited ≡ Some p) ⊎ (p.run ≡ n)
    pub fids : (fid : ℕ) (e : FidEntry) → entry_at s' fid ≡ Some e → HasAttached w.registry (run_of e) (pass_of e) (user_of e)
        ⊎ IsOfRun n (new run).held e

  module _ (c : Changes) where
    came_by : (place : ℕ) (b : Bool) → (place == n) ≡ b → (key' : Key) (run' : Found RunOf) → slice_get after.runs place ≡ Some (key', run')
        → Came w conn s' after place key' run'
    came_by place true e key' run' there =
        let same : place ≡ n = eqb-true place n e in
        let at : slice_get after.runs n ≡ Some (key', run') = ap (slice_get after.runs) (sym same) ∙ there in
        let its : ◌≡◌ {A = Key × Found RunOf} (key, new run) (key', run') = let now = there_now in cc in
        let its_key : key ≡ key' = ap (λ (x : Key × Found RunOf). x.0) its in
        let its_run : new run ≡ run' = ap (λ (x : Key × Found RunOf). x.1) its in
        let passes : run'.held.passes ≡ (new run).held.passes = ap (λ (x : Found RunOf). x.held.passes) (sym its_run) in
        let finds : run'.finds ≡ (new run).finds = ap (λ (x : Found RunOf). x.finds) (sym its_run) in
        let count : one_if (awaits place s') ≡ one_if (awaits n s') = ap (λ q. one_if (awaits q s')) same in
        let count_then : one_if (awaits place (session_at w conn)) ≡ one_if (awaits n (session_at w conn)) =
        ap (λ q. one_if (awaits q (session_at w conn))) same in
        Stood run (ap (slice_get w.registry.runs) same ∙ is ∙ ap (λ k. Some (k, run)) its_key)
        (ap (λ (x : Found RunOf). x.held.fresh) (sym its_run) ∙ c.fresh)
        (λ h. subst (λ (x : Found RunOf). IsSound x.held) its_run (c.room h)) (omega (arith, c.own, passes, finds, count, count_then))
        (λ f. let small = c.few f in omega (arith, small, finds))
    came_by place false e key' run' there =
        let ne : place ≢ n = eqb-false place n e in
        Stood run' (sym (elsewhere place ne) ∙ there) refl (λ h. h) (let few = c.others place ne in omega (arith, few)) (λ f. f)

    attached_by : (place pass : ℕ) (user : List ℕ) (b : Bool) → (place == n) ≡ b → HasAttached w.registry place pass user
        → HasAttached after place pass user
    attached_by place pass user true e h =
        let same : place ≡ n = eqb-true place n e in
        let g = given w.registry place pass user h in
        let at : slice_get w.registry.runs n ≡ Some (g.key, g.run) = ap (slice_get w.registry.runs) (sym same) ∙ g.there in
        let its : ◌≡◌ {A = Key × Found RunOf} (g.key, g.run) (key, run) = let stood = is in cc in
        let passes : g.run.held.passes ≡ run.held.passes = ap (λ (x : Key × Found RunOf). x.1.held.passes) its in
        let attached : IsAttachedAs run.held pass user =
        subst (λ (x : Key × Found RunOf). IsAttachedAs x.1.held pass user) its g.attached in
        subst (λ q. HasAttached after q pass user) (sym same)
        (has_attached after n pass user key (new run) there_now (omega (arith, passes, g.gave, c.more)) (c.attached pass user attached))
    attached_by place pass user false e h =
        let g = given w.registry place pass user h in
        has_attached after place pass user g.key g.run (elsewhere place (eqb-false place n e) ∙ g.there) g.gave g.attached

    there_by : (place : ℕ) (b : Bool) → (place == n) ≡ b → IsSome (held_at w.registry.runs place) → IsSome (held_at after.runs place)
    there_by place true e h = is_there after place key (new run) (ap (slice_get after.runs) (eqb-true place n e) ∙ there_now)
    there_by place false e h =
        let g = stands w.registry place h in
        is_there after place g.key g.run (elsewhere place (eqb-false place n e) ∙ g.there)

    awaited_by : (p : Awaited) → ((session_at w conn).awaited ≡ Some p) ⊎ (p.run ≡ n) → IsSome (held_at after.runs p.run)
    awaited_by p (inl was) = there_by p.run (p.run == n) refl (ok.awaited conn p was)
    awaited_by p (inr same) = is_there after p.run key (new run) (ap (slice_get after.runs) same ∙ there_now)

    fids_by : (e : FidEntry) → HasAttached w.registry (run_of e) (pass_of e) (user_of e) ⊎ IsOfRun n (new run).held e
        → HasAttached after (run_of e) (pass_of e) (user_of e)
    fids_by e (inl was) = attached_by (run_of e) (pass_of e) (user_of e) (run_of e == n) refl was
    fids_by e (inr its) =
        has_attached after (run_of e) (pass_of e) (user_of e) key (new run) (ap (slice_get after.runs) its.here ∙ there_now) its.gave
        its.attached

    pub changes : Moves w conn s' after
    changes = record {
      scene = refl;
      published = refl;
      runs = λ place key' run' there. came_by place (place == n) refl key' run' there;
      attached = λ place pass user h. attached_by place pass user (place == n) refl h;
      there = λ place h. there_by place (place == n) refl h;
      awaited = λ p waits. awaited_by p (c.awaited p waits);
      fids = λ fid e there. fids_by e (c.fids fid e there);
    }
