-- Two groups of connections whose finds name runs of their own don't notice each other.
use Rattle.std.proofs.Common.{◌≡◌, ◌∙◌, ℕ, Bool, true, false, not, cond, List, [], ◌∷◌, length}
use Rattle.std.proofs.Common.{None, Some, refl, sym, ap, subst, arith}
use Rattle.std.specs.Prelude.{nat_lt, slice_index_or, slice_set}
use Rattle.std.specs.Option.{option_map_or}
use Rattle.std.proofs.lemmas.Bool.Decides.{nat_tests}
use Rattle.std.proofs.lemmas.List.{length-replicate}
use Rattle.std.specs.FinMap.{empty, get, gets}
use Rattle.std.proofs.Common.{rules}
use Rattle.cs_journal.specs.Runs.{RunOf}
use Rattle.cs_names.specs.declared.limits.TheConstants.{CONNECTIONS}
use Rattle.cs_names.specs.declared.rule_id.RuleId.TheVariants.{S5}
use Rattle.cs_plan.specs.Scenes.{Scene}
use Rattle.cs_registry.specs.Keys.{Key}
use Rattle.cs_registry.specs.Publishing.{with_published}
use Rattle.cs_registry.specs.Registries.{Registry, is_published, with_users}
use Rattle.cs_fids.specs.Tables.{FidMap}
use Rattle.cs_session.specs.declared.reply.Reply.TheVariants.{Error}
use Rattle.cs_session.specs.Sessions.{empty_session}
use Rattle.cs_session.specs.Steps.{first_move_by}
use Rattle.cs_session.specs.Steps as c
use Rattle.cs_users.specs.Rows.{Row}
use Rattle.cs_world.specs.declared.reply.Reply.{Reply}
use Rattle.cs_world.specs.declared.reply.Reply.TheVariants.{Connection, NotReloaded, Published, Reloaded, NotPublished as Refused}
use Rattle.cs_world.specs.declared.reply.StateFault.TheVariants as state
use Rattle.cs_world.specs.declared.step.Step.{Step}
use Rattle.cs_world.specs.declared.step.Step.TheVariants as t
use Rattle.cs_world.specs.Groups.{NoneMeetsLimit, first_replies, first_steps, is_first, key_found, key_of, meets_limit, needs_room}
use Rattle.cs_world.specs.Lists.{steps_of}
use Rattle.cs_world.specs.ConnectionSteps.{session_step}
use Rattle.cs_world.specs.Marks.{WorldMark, run_mark_of, refuses_keeping, refuses_state, refuses_own, refuses_users}
use Rattle.cs_world.specs.Places.{with_places}
use Rattle.cs_world.specs.Questions.{question_of_move}
use Rattle.cs_world.specs.Steps.{by_registry, from_front, step_of}
use Rattle.cs_world.specs.Worlds.{World, session_at, new_world}
use Rattle.cs_world.proofs.Moved.{blank_moved}
use Rattle.cs_world.proofs.Within.{Within}
use Rattle.cs_world.proofs.Placing.{index_replicate}
use Rattle.cs_world.proofs.Apart.{Agree, Alike, other_front, own_front}

module _ (mine : ℕ → Bool) (ours : Key → Bool) where
  -- ---- any step

  module _ (f : ℕ → ℕ) (w v : World) (a : Agree mine ours f w v) where
    abbrev shelved : World → ℕ → Bool → Bool → Bool → Bool → Reply × World
    shelved x number none no_state shown no_shelf =
        by_registry x
        (cond {A = Reply × Registry RunOf} none (Refused state.NoSuchState, x.registry)
        (cond no_state (Refused state.Memory, x.registry)
        (cond shown (Refused state.Twice, x.registry)
        (cond no_shelf (Refused state.Memory, x.registry) (Published, with_published x.registry number)))))

    stays_alike : (reply : Reply) → Alike mine ours (reply, w) (reply, v)
    stays_alike reply = record { to = f; said = refl; agree = a }

    shelved_both : (number : ℕ) (none no_state shown no_shelf : Bool)
        → Alike mine ours (shelved w number none no_state shown no_shelf) (shelved v number none no_state shown no_shelf)
    shelved_both number true no_state shown no_shelf = stays_alike (Refused state.NoSuchState)
    shelved_both number false true shown no_shelf = stays_alike (Refused state.Memory)
    shelved_both number false false true no_shelf = stays_alike (Refused state.Twice)
    shelved_both number false false false true = stays_alike (Refused state.Memory)
    shelved_both number false false false false = record {
      to = f;
      said = refl;
      agree = record {
        runs = record {
          scene = a.runs.scene;
          users = a.runs.users;
          published = ap (λ (xs : List Bool). slice_set xs number true) a.runs.published;
          runs = a.runs.runs;
          known = a.runs.known;
          apart = a.runs.apart;
          owned = a.runs.owned;
          fewer = a.runs.fewer;
        };
        all = a.all;
        rest = a.rest;
        own = a.own;
        inside = a.inside;
        theirs = a.theirs;
      };
    }

    publish_both : (number : ℕ) (mark : WorldMark) → Alike mine ours (step_of w (t.Publish number) mark) (step_of v (t.Publish number) mark)
    publish_both number mark =
        subst (λ (y : Bool × Bool). Alike mine ours (shelved w number (not y.0) (refuses_state mark) y.1 (refuses_keeping mark))
        (step_of v (t.Publish number) mark))
        (λ i. (nat_lt number (length (sym a.runs.scene i).plan), slice_index_or (sym a.runs.published i) number false))
        (shelved_both number (not (nat_lt number (length v.registry.scene.plan))) (refuses_state mark) (is_published v.registry number)
        (refuses_keeping mark))

    reload_both : (users : List Row) (refused : Bool)
        → Alike mine ours (by_registry w
        (cond {A = Reply × Registry RunOf} refused (NotReloaded, w.registry) (Reloaded, with_users w.registry users)))
        (by_registry v (cond {A = Reply × Registry RunOf} refused (NotReloaded, v.registry) (Reloaded, with_users v.registry users)))
    reload_both users true = stays_alike NotReloaded
    reload_both users false = record {
      to = f;
      said = refl;
      agree = record {
        runs = record {
          scene = a.runs.scene;
          users = refl;
          published = a.runs.published;
          runs = a.runs.runs;
          known = a.runs.known;
          apart = a.runs.apart;
          owned = a.runs.owned;
          fewer = a.runs.fewer;
        };
        all = a.all;
        rest = a.rest;
        own = a.own;
        inside = a.inside;
        theirs = a.theirs;
      };
    }

    on_both : (conn now : ℕ) (x : c.Step) (mark : WorldMark) → mine conn ≡ true → ((k : Key) → key_found x ≡ Some k → ours k ≡ mine conn)
        → (b : Bool) → nat_lt conn CONNECTIONS ≡ b
        → option_map_or (needs_room w.registry)
        (cond b (question_of_move (first_move_by now (session_at w conn) x (refuses_own mark))) None) false ≡ false
        → Alike mine ours (cond {A = Reply × World} b
        (from_front w conn x (run_mark_of mark) (first_move_by now (session_at w conn) x (refuses_own mark)))
        (Connection (Error S5), w))
        (cond {A = Reply × World} b
        (from_front v conn x (run_mark_of mark) (first_move_by now (session_at v conn) x (refuses_own mark)))
        (Connection (Error S5), v))
    on_both conn now x mark is own true low few =
        own_front mine ours f w v a conn is (grind (arith, nat_tests)) now x (refuses_own mark) (run_mark_of mark) (λ k e. own k e ∙ is) few
    on_both conn now x mark is own false low few = stays_alike (Connection (Error S5))

    on_other : (conn now : ℕ) (x : c.Step) (mark : WorldMark) → mine conn ≡ false → ((k : Key) → key_found x ≡ Some k → ours k ≡ mine conn)
        → (b : Bool) → nat_lt conn CONNECTIONS ≡ b
        → Agree mine ours f
        (cond {A = Reply × World} b
        (from_front w conn x (run_mark_of mark) (first_move_by now (session_at w conn) x (refuses_own mark)))
        (Connection (Error S5), w)).1 v
    on_other conn now x mark is own true low =
        other_front mine ours f w v a conn is (grind (arith, nat_tests)) now x (refuses_own mark) (run_mark_of mark) (λ k e. own k e ∙ is)
    on_other conn now x mark is own false low = a

    -- a step finds a run of its own group
    abbrev pub Owned : Step → Type 0
    Owned x = (k : Key) → key_of x ≡ Some k → ours k ≡ is_first mine x

    pub step_both : (x : Step) (mark : WorldMark) → is_first mine x ≡ true → Owned x → meets_limit w x mark ≡ false
        → Alike mine ours (step_of w x mark) (step_of v x mark)
    step_both (t.Publish number) mark is own few = publish_both number mark
    step_both (t.Reload users) mark is own few = reload_both users (refuses_users mark)
    step_both (t.On conn now x) mark is own few = on_both conn now (session_step x) mark is own (nat_lt conn CONNECTIONS) refl few

    step_other : (x : Step) (mark : WorldMark) → is_first mine x ≡ false → Owned x → Agree mine ours f (step_of w x mark).1 v
    step_other (t.Publish number) mark is own = absurd (cc)
    step_other (t.Reload users) mark is own = absurd (cc)
    step_other (t.On conn now x) mark is own = on_other conn now (session_step x) mark is own (nat_lt conn CONNECTIONS) refl

  -- ---- lists of steps

  abbrev pub AllOwned : List (Step × WorldMark) → Type 0
  AllOwned [] = Unit {0}
  AllOwned (x ∷ xs) = ((k : Key) → key_of x.0 ≡ Some k → ours k ≡ is_first mine x.0) × AllOwned xs

  -- the replies are those of the first group, and the worlds then agree
  pub record Without (all : World) (alone : List Reply × World) (had : List Reply) : Type 0 where
    pub replies : alone.0 ≡ had
    pub to : ℕ → ℕ
    pub agree : Agree mine ours to all alone.1

  pub groups_from : (f : ℕ → ℕ) (w v : World) (xs : List (Step × WorldMark)) → Agree mine ours f w v → AllOwned xs → NoneMeetsLimit w xs
      → Without (steps_of w xs).1 (steps_of v (first_steps mine xs)) (first_replies mine xs (steps_of w xs).0)
  groups_from f w v [] a own few = record { replies = refl; to = f; agree = a }
  groups_from f w v (x ∷ xs) a own few = by (is_first mine x.0) refl (λ to v' b. groups_from to (step_of w x.0 x.1).1 v' xs b own.1 few.1)
    where
      by : (b : Bool) → is_first mine x.0 ≡ b
          → ((to : ℕ → ℕ) (v' : World) → Agree mine ours to (step_of w x.0 x.1).1 v'
          → Without (steps_of (step_of w x.0 x.1).1 xs).1 (steps_of v' (first_steps mine xs))
          (first_replies mine xs (steps_of (step_of w x.0 x.1).1 xs).0))
          → Without (steps_of (step_of w x.0 x.1).1 xs).1 (steps_of v (cond b (x ∷ first_steps mine xs) (first_steps mine xs)))
          (cond b ((step_of w x.0 x.1).0 ∷ first_replies mine xs (steps_of (step_of w x.0 x.1).1 xs).0)
          (first_replies mine xs (steps_of (step_of w x.0 x.1).1 xs).0))
      by true is rest =
          let both = step_both f w v a x.0 x.1 is own.0 few.0 in
          let more = rest both.to (step_of v x.0 x.1).1 both.agree in
          record { replies = λ i. sym both.said i ∷ more.replies i; to = more.to; agree = more.agree }
      by false is rest = rest f v (step_other f w v a x.0 x.1 is own.0)

-- ---- from a new world

abbrev no_fids : FidMap
no_fids = empty

nothing_there : (fid : ℕ) → get no_fids fid ≡ None
nothing_there fid = search (rules, gets)

module _ (scene : Scene) (users : List Row) where
  blank_there : (conn : ℕ) → session_at (new_world scene users) conn ≡ empty_session None
  blank_there conn = index_replicate CONNECTIONS conn (empty_session None)

  blank_within : (b : ℕ → Bool) → Within b (empty_session None)
  blank_within b = record {
    fids = λ fid e is. absurd (let none : get no_fids fid ≡ None = nothing_there fid in cc);
    awaits = λ p is. absurd (cc);
  }

  pub new_agree : (mine : ℕ → Bool) (ours : Key → Bool) → Agree mine ours (λ p. p) (new_world scene users) (new_world scene users)
  new_agree mine ours = record {
    runs = record {
      scene = refl;
      users = refl;
      published = refl;
      runs = λ p e is. is;
      known = λ key own. refl;
      apart = λ p k low high same. same;
      owned = λ p e is. absurd (cc);
      fewer = omega arith;
    };
    all = length-replicate CONNECTIONS (empty_session None);
    rest = length-replicate CONNECTIONS (empty_session None);
    own = λ n m. blank_there n ∙ sym (blank_moved (λ p. p) None) ∙ ap (with_places (λ p. p)) (sym (blank_there n));
    inside = λ n m. subst (Within _) (sym (blank_there n)) (blank_within _);
    theirs = λ n m. subst (Within _) (sym (blank_there n)) (blank_within _);
  }
