-- A step of a connection keeps what is true of consistent worlds.
use Rattle.std.proofs.Common.{◌≡◌, ◌≢◌, ◌∙◌, ℕ, zero, suc, ◌+◌, ◌<◌, ◌≤◌, ◌==◌, Bool, true, false, cond, List, [], ◌∷◌, length, length-set}
use Rattle.std.proofs.Common.{Option, None, Some, IsSome, refl, sym, ap, subst, arith}
use Rattle.std.specs.Prelude.{IsSomeAnd, filter, slice_get, slice_set, slice_index_or}
use Rattle.std.specs.Option.{option_map}
use Rattle.std.proofs.lemmas.Option.{slice_get_past}
use Rattle.std.proofs.lemmas.Bool.{eqb-true, eqb-false}
use Rattle.std.proofs.lemmas.List.{get_or-set_other, get_or-set_same}
use Rattle.cs_fids.specs.declared.entry.FidEntry.{FidEntry}
use Rattle.cs_fids.specs.Entries.{pass_of, run_of, user_of}
use Rattle.cs_journal.specs.Journals.{HasRoom, IsLegal}
use Rattle.cs_journal.specs.Runs.{RunOf, first_state, state_of}
use Rattle.cs_names.specs.declared.limits.TheConstants.{CONNECTIONS, RUN_ATTACHES}
use Rattle.cs_plan.specs.Scenes.{Scene, state_at}
use Rattle.cs_registry.specs.declared.found.Found.{Found}
use Rattle.cs_registry.specs.Keys.{Key}
use Rattle.cs_registry.specs.Registries.{Registry}
use Rattle.cs_registry.specs.Runs.{held_at}
use Rattle.cs_session.specs.Sessions.{Awaited, SessionState, empty_session, entry_at}
use Rattle.cs_world.specs.Consistent.{HasConsistentRuns, HasAttached, IsAttachedAs, IsConsistentRun, awaits, count_awaiting}
use Rattle.cs_world.specs.Reaching.{IsMade}
use Rattle.cs_world.specs.Worlds.{World, session_at, with_both}
use Rattle.cs_world.proofs.Judging.{IsSound}

-- ---- counting

filter_cons : {A : Type 0} (P : A → Bool) (x : A) (xs : List A) → length (filter P (x ∷ xs)) ≡ cond (P x) 1 0 + length (filter P xs)
filter_cons P x xs =
    elim (P x) as (λ b. length (cond b (x ∷ filter P xs) (filter P xs)) ≡ cond b 1 0 + length (filter P xs))
    [ true ↦ omega arith | false ↦ omega arith ]

-- of a list of which one item changes
pub counted : {A : Type 0} (P : A → Bool) (xs : List A) (n : ℕ) (y d : A) → n < length xs
    → length (filter P (slice_set xs n y)) + cond (P (slice_index_or xs n d)) 1 0 ≡ length (filter P xs) + cond (P y) 1 0
counted P [] n y d inside = absurd (omega arith)
counted P (a ∷ xs) zero y d inside = rw (filter_cons P y xs, filter_cons P a xs) (omega arith)
counted P (a ∷ xs) (suc n) y d inside =
    let rest : length (filter P (slice_set xs n y)) + cond (P (slice_index_or xs n d)) 1 0 ≡ length (filter P xs) + cond (P y) 1 0 =
    counted P xs n y d (omega arith) in
    rw (filter_cons P a (slice_set xs n y), filter_cons P a xs) (omega (arith, rest))

none_counted : {A : Type 0} (P : A → Bool) (xs : List A) (d : A) → ((n : ℕ) → P (slice_index_or xs n d) ≡ false) → length (filter P xs) ≡ 0
none_counted P [] d none = refl
none_counted P (a ∷ xs) d none =
    let first : P a ≡ false = none zero in
    let rest : length (filter P xs) ≡ 0 = none_counted P xs d (λ n. none (suc n)) in
    rw (filter_cons P a xs, first) (omega (arith, rest))

-- ---- the run at a place

module _ (registry : Registry RunOf) (place pass : ℕ) (user : List ℕ) where
  -- a run with its key, that gave the pass and attached the user under it
  pub record Given : Type 0 where
    pub key : Key
    pub run : Found RunOf
    pub there : slice_get registry.runs place ≡ Some (key, run)
    pub gave : pass < run.held.passes
    pub attached : IsAttachedAs run.held pass user

  given_by : (o : Option (Key × Found RunOf)) → slice_get registry.runs place ≡ o
      → IsSomeAnd (option_map (λ (run : Key × Found RunOf). run.1.held) o) (λ run. (pass < run.passes) × IsAttachedAs run pass user) → Given
  given_by None is h = absurd h
  given_by (Some (key, run)) is h = record { key = key; run = run; there = is; gave = h.0; attached = h.1 }

  pub given : HasAttached registry place pass user → Given
  given h = given_by (slice_get registry.runs place) refl h

  pub has_attached : (key : Key) (run : Found RunOf) → slice_get registry.runs place ≡ Some (key, run) → pass < run.held.passes
      → IsAttachedAs run.held pass user → HasAttached registry place pass user
  has_attached key run there gave attached = rw there (gave, attached)

pub held_there : (registry : Registry RunOf) (place : ℕ) (key : Key) (run : Found RunOf) → slice_get registry.runs place ≡ Some (key, run)
    → held_at registry.runs place ≡ Some run.held
held_there registry place key run there = rw there refl

pub record Stands (registry : Registry RunOf) (place : ℕ) : Type 0 where
  pub key : Key
  pub run : Found RunOf
  pub there : slice_get registry.runs place ≡ Some (key, run)

stands_by : (registry : Registry RunOf) (place : ℕ) (o : Option (Key × Found RunOf)) → slice_get registry.runs place ≡ o
    → IsSome (option_map (λ (run : Key × Found RunOf). run.1.held) o) → Stands registry place
stands_by registry place None is h = absurd (cc)
stands_by registry place (Some (key, run)) is h = record { key = key; run = run; there = is }

pub stands : (registry : Registry RunOf) (place : ℕ) → IsSome (held_at registry.runs place) → Stands registry place
stands registry place h = stands_by registry place (slice_get registry.runs place) refl h

pub is_there : (registry : Registry RunOf) (place : ℕ) (key : Key) (run : Found RunOf) → slice_get registry.runs place ≡ Some (key, run)
    → IsSome (held_at registry.runs place)
is_there registry place key run there = rw there refl

-- ---- one connection and the registry move

-- 1 if the connection awaits its attach to the run at that place, else 0
abbrev pub one_if : Bool → ℕ
one_if b = cond b 1 0

module _ (w : World) (conn : ℕ) (s' : SessionState) (r' : Registry RunOf) where
  -- a run of the new registry was there before, or was made
  pub data Came (place : ℕ) (key : Key) (run' : Found RunOf) : Type 0 where
    Stood : (run : Found RunOf) → slice_get w.registry.runs place ≡ Some (key, run) → run'.held.fresh ≡ run.held.fresh
        → (IsSound run.held → IsSound run'.held)
        → run'.held.passes + one_if (awaits place s') + run.finds ≤ run.held.passes + one_if (awaits place (session_at w conn)) + run'.finds
        → (run.finds ≤ RUN_ATTACHES → run'.finds ≤ RUN_ATTACHES) → Came place key run'
    Made : place ≡ length w.registry.runs → IsMade w.registry key run' → Came place key run'

  pub record Moves : Type 0 where
    pub scene : r'.scene ≡ w.registry.scene
    pub published : r'.published ≡ w.registry.published
    pub runs : (place : ℕ) (key : Key) (run' : Found RunOf) → slice_get r'.runs place ≡ Some (key, run') → Came place key run'
    pub attached : (place pass : ℕ) (user : List ℕ) → HasAttached w.registry place pass user → HasAttached r' place pass user
    pub there : (place : ℕ) → IsSome (held_at w.registry.runs place) → IsSome (held_at r'.runs place)
    pub awaited : (p : Awaited) → s'.awaited ≡ Some p → IsSome (held_at r'.runs p.run)
    pub fids : (fid : ℕ) (e : FidEntry) → entry_at s' fid ≡ Some e → HasAttached r' (run_of e) (pass_of e) (user_of e)

module _ (w : World) (ok : HasConsistentRuns w) (conn : ℕ) (inside : conn < CONNECTIONS) (s' : SessionState) (r' : Registry RunOf)
    (m : Moves w conn s' r') where
  abbrev next : World
  next = with_both w conn s' r'

  within : conn < length w.connections
  within = omega (arith, ok.all)

  same_conn : session_at next conn ≡ s'
  same_conn = get_or-set_same w.connections conn s' (empty_session None) within

  other_conn : (c : ℕ) → c ≢ conn → session_at next c ≡ session_at w c
  other_conn c other = get_or-set_other w.connections conn c s' (empty_session None) other

  counts : (place : ℕ)
      → count_awaiting place next.connections + one_if (awaits place (session_at w conn))
      ≡ count_awaiting place w.connections + one_if (awaits place s')
  counts place = counted (awaits place) w.connections conn s' (empty_session None) within

  -- nobody awaits an attach to a run that isn't there
  past_by : (place : ℕ) (c : ℕ) (o : Option Awaited) (b : Bool) → (session_at w c).awaited ≡ o → awaits place (session_at w c) ≡ b
      → slice_get w.registry.runs place ≡ None → awaits place (session_at w c) ≡ false
  past_by place c o false is waits none = waits
  past_by place c None true is waits none = rw is refl
  past_by place c (Some p) true is waits none =
      let its : (p.run == place) ≡ true = rw is at waits in
      let same : p.run ≡ place = eqb-true p.run place its in
      let found = stands w.registry p.run (ok.awaited c p is) in
      let gone : slice_get w.registry.runs p.run ≡ None = ap (slice_get w.registry.runs) same ∙ none in
      absurd (let there = found.there in cc)

  past : (place : ℕ) → slice_get w.registry.runs place ≡ None → count_awaiting place w.connections ≡ 0
  past place none =
      none_counted (awaits place) w.connections (empty_session None)
      (λ c. past_by place c (session_at w c).awaited (awaits place (session_at w c)) refl refl none)

  at_most_one : (b : Bool) → one_if b ≤ 1
  at_most_one true = omega arith
  at_most_one false = omega arith

  run_by : (place : ℕ) (key : Key) (run' : Found RunOf) → Came w conn s' r' place key run' → IsConsistentRun next place key run'
  run_by place key run' (Stood run there fresh room more few) =
      let was = ok.runs place key run there in
      record {
        attaches = omega (arith, counts place, was.attaches, more);
        few = few was.few;
        room = (room (was.room, was.legal)).0;
        legal = (room (was.room, was.legal)).1;
        published = ap (λ p. slice_index_or p key.number false) m.published ∙ was.published;
        fresh = ap (λ s. state_at s key.number) m.scene ∙ was.fresh ∙ ap Some (sym fresh);
      }
  run_by place key run' (Made last made) =
      let none : count_awaiting place w.connections ≡ 0 =
      past place (ap (slice_get w.registry.runs) last ∙ slice_get_past w.registry.runs (length w.registry.runs) (omega arith)) in
      let few : one_if (awaits place s') ≤ 1 = at_most_one (awaits place s') in
      let passes : run'.held.passes ≡ 0 = ap (λ (r : RunOf). r.passes) made.fresh in
      record {
        attaches = omega (arith, counts place, none, few, passes, made.once);
        few = omega (arith, made.once);
        room = subst (λ r. HasRoom (state_of r)) (sym made.fresh) (omega arith);
        legal = subst (λ (r : RunOf). IsLegal (first_state r) r.journal) (sym made.fresh) tt;
        published = ap (λ p. slice_index_or p key.number false) m.published ∙ made.published;
        fresh = ap (λ s. state_at s key.number) m.scene ∙ made.state ∙ ap Some (sym (ap (λ (r : RunOf). r.fresh) made.fresh));
      }

  awaited_by : (c : ℕ) (b : Bool) → (c == conn) ≡ b → (p : Awaited) → (session_at next c).awaited ≡ Some p → IsSome (held_at r'.runs p.run)
  awaited_by c true is p waits =
      m.awaited p (ap (λ (s : SessionState). s.awaited) (sym (ap (session_at next) (eqb-true c conn is) ∙ same_conn)) ∙ waits)
  awaited_by c false is p waits =
      m.there p.run (ok.awaited c p (ap (λ (s : SessionState). s.awaited) (sym (other_conn c (eqb-false c conn is))) ∙ waits))

  fids_by : (c : ℕ) (b : Bool) → (c == conn) ≡ b → (fid : ℕ) (e : FidEntry) → entry_at (session_at next c) fid ≡ Some e
      → HasAttached r' (run_of e) (pass_of e) (user_of e)
  fids_by c true is fid e there =
      m.fids fid e (ap (λ s. entry_at s fid) (sym (ap (session_at next) (eqb-true c conn is) ∙ same_conn)) ∙ there)
  fids_by c false is fid e there =
      m.attached (run_of e) (pass_of e) (user_of e)
      (ok.fids c fid e (ap (λ s. entry_at s fid) (sym (other_conn c (eqb-false c conn is))) ∙ there))

  pub moved : HasConsistentRuns next
  moved = record {
    all = length-set w.connections conn s' ∙ ok.all;
    states = ap length m.published ∙ ok.states ∙ ap (λ (s : Scene). length s.plan) (sym m.scene);
    runs = λ place key run' there. run_by place key run' (m.runs place key run' there);
    awaited = λ c p waits. awaited_by c (c == conn) refl p waits;
    fids = λ c fid e there. fids_by c (c == conn) refl fid e there;
  }
