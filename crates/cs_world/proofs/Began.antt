-- The moment at which a run began: before it nothing is put to the run, and from then on the run is there.
use Rattle.std.proofs.Common.{◌≡◌, ◌∙◌, ℕ, ◌+◌, Bool, true, false, not, cond, List, [], ◌∷◌, ◌++◌, Option, None, Some, Result, Err, refl}
use Rattle.std.proofs.Common.{ap}
use Rattle.std.specs.Prelude.{is_some, map}
use Rattle.std.specs.Option.{option_map_or, option_or}
use Rattle.cs_journal.specs.Runs.{RunOf}
use Rattle.cs_names.specs.declared.rule_id.RuleId.TheVariants.{S5}
use Rattle.cs_permit.specs.declared.fault.FindFault.{FindFault}
use Rattle.cs_permit.specs.declared.fault.FindFault.TheVariants.{Unpublished, Full}
use Rattle.cs_registry.specs.declared.found.Found.{Found}
use Rattle.cs_registry.specs.Finds.{found_again, made}
use Rattle.cs_registry.specs.Keys.{Key}
use Rattle.cs_registry.specs.Naming.{key_in}
use Rattle.cs_registry.specs.Registries.{Registry, is_published}
use Rattle.cs_registry.specs.Runs.{Runs, change, has_no_room, held_at, place_of, with_run}
use Rattle.cs_run.specs.declared.answer.Answer.TheVariants.{Denied}
use Rattle.cs_permit.specs.declared.fault.PassFault.TheVariants.{Foreign}
use Rattle.cs_session.specs.Questions.{Question, FindRun, AttachTo, CallOn, PortAnswer, AttachAnswer, CallAnswer}
use Rattle.cs_session.specs.Steps.{FirstMove, Done, Asks, first_move_by}
use Rattle.cs_session.specs.Steps as c
use Rattle.cs_users.specs.Rows.{Row}
use Rattle.cs_world.specs.declared.run_call.RunCall.{RunCall}
use Rattle.cs_world.specs.declared.step.Step.{Step}
use Rattle.cs_world.specs.declared.step.Step.TheVariants as t
use Rattle.cs_world.specs.Asking.{answer_of_runs, found_by, given_run, with_run_at}
use Rattle.cs_world.specs.Isolation.{users_made_with}
use Rattle.cs_world.specs.Lists.{steps_of}
use Rattle.cs_world.specs.ConnectionSteps.{session_step}
use Rattle.cs_world.specs.Marks.{WorldMark, RunMark, run_mark_of, step_mark_of, refuses_own}
use Rattle.cs_world.specs.Projections.{answers_of, projection_of, put_to, run_with_key, answers_there}
use Rattle.cs_world.specs.Questions.{question_of_step}
use Rattle.cs_world.specs.Runs.{attach_on, call_on}
use Rattle.cs_world.specs.Steps.{from_front, on_connection, step_of}
use Rattle.cs_world.specs.Worlds.{World, session_at}
use Rattle.cs_world.proofs.Ending.{on_ends}
use Rattle.cs_world.proofs.Alone.{MadeWith}
use Rattle.cs_world.proofs.Keyed as keyed
use Rattle.cs_world.proofs.Reached.{publish_keeps, reload_keeps}

or_some : (o p : Option ℕ) → is_some o ≡ true → is_some (option_or o p) ≡ true
or_some None p is = absurd (cc)
or_some (Some n) p is = refl

none_if : (o : Option ℕ) → is_some o ≡ false → o ≡ None
none_if None is = refl
none_if (Some n) is = absurd (cc)

module _ (key : Key) where
  -- the key has a run
  abbrev pub has_run : Registry RunOf → Bool
  has_run r = is_some (place_of key r.runs)

  -- ---- a run that is there stays

  module _ (r : Registry RunOf) (there : has_run r ≡ true) where
    changed : (new : Found RunOf → Found RunOf) (n : ℕ) → has_run (record r { runs = change new n r.runs }) ≡ true
    changed new n = ap (λ (o : Option ℕ). is_some o) (keyed.place_change key new n r.runs) ∙ there

    pushed : (own : Key) (held : RunOf) → has_run (record r { runs = with_run r.runs own held }) ≡ true
    pushed own held = ap (λ (o : Option ℕ). is_some o) (keyed.place_push key r.runs own (record {
      finds = 1;
      held = held;
    })) ∙ or_some (place_of key r.runs) _ there

    found_cases : (own : Key) (unpublished full : Bool) (o : Option ℕ) (g : Option RunOf)
        → has_run
        (cond {A = Result ℕ FindFault × Registry RunOf} unpublished (Err Unpublished, r)
        (cond full (Err Full, r) (option_map_or (found_again r) o (made r own g)))).1 ≡ true
    found_cases own true full o g = there
    found_cases own false true o g = there
    found_cases own false false (Some n) g = changed (λ run. record run { finds = run.finds + 1 }) n
    found_cases own false false None None = there
    found_cases own false false None (Some held) = pushed own held

    finds : (mark : RunMark) (o : Option Key) → has_run (found_by r mark o).1 ≡ true
    finds mark None = there
    finds mark (Some own) =
        found_cases own (not (is_published r own.number)) (has_no_room r.runs own) (place_of own r.runs) (given_run r own.number mark)

    puts : (n : ℕ) (o : Option RunOf) (new : RunOf → RunOf) (told : RunOf → PortAnswer) (none : PortAnswer)
        → has_run (option_map_or {T = RunOf} {U = PortAnswer × Registry RunOf} (λ run. (told run, with_run_at r n (new run))) o (none, r)).1
        ≡ true
    puts n None new told none = there
    puts n (Some run) new told none = changed (λ (found : Found RunOf). record found { held = new run }) n

    asked : (q : Question) (m : RunMark) → has_run (answer_of_runs r q m).1 ≡ true
    asked (FindRun state_name run_name) m = finds m (key_in state_name run_name)
    asked (AttachTo now n call) m =
        puts n (held_at r.runs n) (λ run. (attach_on run now call m).1) (λ run. AttachAnswer (attach_on run now call m).0)
        (AttachAnswer (Err Foreign))
    asked (CallOn now n pass call) m =
        puts n (held_at r.runs n) (λ run. (call_on run now pass call (step_mark_of m)).1)
        (λ run. CallAnswer (call_on run now pass call (step_mark_of m)).0) (CallAnswer (Denied S5))

  module _ (w : World) (there : has_run w.registry ≡ true) where
    fronted : (conn : ℕ) (x : c.Step) (m : RunMark) (f : FirstMove) → has_run (from_front w conn x m f).1.registry ≡ true
    fronted conn x m (Done reply s) = there
    fronted conn x m (Asks q) = asked w.registry there q m

    connected : (conn now : ℕ) (x : c.Step) (mark : WorldMark) → has_run (on_connection w conn now x mark).1.registry ≡ true
    connected conn now x mark =
        on_ends w conn now x mark (λ q y. has_run y.1.registry ≡ true)
        (λ low. fronted conn x (run_mark_of mark) (first_move_by now (session_at w conn) x (refuses_own mark))) (λ high. there)

    stays : (x : Step) (mark : WorldMark) → has_run (step_of w x mark).1.registry ≡ true
    stays (t.Publish number) mark = ap (λ (runs : Runs RunOf). is_some (place_of key runs)) (publish_keeps w.registry number mark) ∙ there
    stays (t.Reload users) mark = ap (λ (runs : Runs RunOf). is_some (place_of key runs)) (reload_keeps w.registry users mark) ∙ there
    stays (t.On conn now x) mark = connected conn now (session_step x) mark

  all_stay : (w : World) → has_run w.registry ≡ true → (xs : List (Step × WorldMark)) → has_run (steps_of w xs).1.registry ≡ true
  all_stay w there [] = there
  all_stay w there (x ∷ xs) = all_stay (step_of w x.0 x.1).1 (stays w there x.0 x.1) xs

  -- ---- a run that began

  module _ (users : List Row) where
    there_made : (w : World) → has_run w.registry ≡ true → (xs : List (Step × WorldMark)) → MadeWith key users w xs
    there_made w there [] = tt
    there_made w there (x ∷ xs) = (
      λ none is. absurd (let gone : has_run w.registry ≡ false = ap (λ (o : Option ℕ). is_some o) none in cc),
      there_made (step_of w x.0 x.1).1 (stays w there x.0 x.1) xs,
    )

    -- the users at that time are those that it was made with
    pub made_with : (w : World) (xs : List (Step × WorldMark)) → users_made_with w xs key ≡ Some users → MadeWith key users w xs
    made_with w [] is = tt
    made_with w (x ∷ xs) is = by (has_run (step_of w x.0 x.1).1.registry) refl is (made_with (step_of w x.0 x.1).1 xs)
      where
        by : (b : Bool) → has_run (step_of w x.0 x.1).1.registry ≡ b
            → cond b (Some w.registry.users) (users_made_with (step_of w x.0 x.1).1 xs key) ≡ Some users
            → (users_made_with (step_of w x.0 x.1).1 xs key ≡ Some users → MadeWith key users (step_of w x.0 x.1).1 xs)
            → MadeWith key users w (x ∷ xs)
        by true e is rest =
            (λ none there. (let same : Some w.registry.users ≡ Some users = is in cc), there_made (step_of w x.0 x.1).1 e xs)
        by false e is rest = (λ none there. absurd (cc), rest is)

    ends_there : (w : World) (xs : List (Step × WorldMark)) → users_made_with w xs key ≡ Some users
        → has_run (steps_of w xs).1.registry ≡ true
    ends_there w [] is = absurd (cc)
    ends_there w (x ∷ xs) is = by (has_run (step_of w x.0 x.1).1.registry) refl is (ends_there (step_of w x.0 x.1).1 xs)
      where
        by : (b : Bool) → has_run (step_of w x.0 x.1).1.registry ≡ b
            → cond b (Some w.registry.users) (users_made_with (step_of w x.0 x.1).1 xs key) ≡ Some users
            → (users_made_with (step_of w x.0 x.1).1 xs key ≡ Some users → has_run (steps_of (step_of w x.0 x.1).1 xs).1.registry ≡ true)
            → has_run (steps_of (step_of w x.0 x.1).1 xs).1.registry ≡ true
        by true e is rest = all_stay (step_of w x.0 x.1).1 e xs
        by false e is rest = rest is

    run_by : (r : Registry RunOf) (o : Option ℕ) → place_of key r.runs ≡ o → is_some o ≡ true → (run : RunOf)
        × (run_with_key r key ≡ Some run)
    run_by r None is some = absurd (cc)
    run_by r (Some n) is some =
        let its = keyed.there key r.runs n is in
        (its.0.held, rw (is, its.1) refl)

    -- and it is there in the end
    pub stands : (w : World) (xs : List (Step × WorldMark)) → users_made_with w xs key ≡ Some users → (run : RunOf)
        × (run_with_key (steps_of w xs).1.registry key ≡ Some run)
    stands w xs is = run_by (steps_of w xs).1.registry (place_of key (steps_of w xs).1.registry.runs) refl (ends_there w xs is)

  -- ---- a run that never began

  nothing : {A : Type 0} (of : Question → List A) (none : (q : Question) → of q ≡ []) (asked : Option Question)
      → option_map_or of asked [] ≡ []
  nothing of none None = refl
  nothing of none (Some q) = none q

  module _ (r : Registry RunOf) (none : place_of key r.runs ≡ None) (mark : RunMark) where
    none_put : (q : Question) → put_to r key q mark ≡ []
    none_put (FindRun state_name run_name) = refl
    none_put (AttachTo now place call) = rw none refl
    none_put (CallOn now place pass call) = rw none refl

    none_told : (q : Question) → answers_there r key q mark ≡ []
    none_told q = ap (λ (l : List (RunCall × RunMark)). map (λ (put : RunCall × RunMark). (answer_of_runs r q mark).0) l) (none_put q)

  -- nothing was put to it, and it isn't there in the end
  pub record Never (w : World) (xs : List (Step × WorldMark)) : Type 0 where
    pub puts : projection_of w xs key ≡ []
    pub answers : answers_of w xs key ≡ []
    pub gone : place_of key (steps_of w xs).1.registry.runs ≡ None

  pub never : (w : World) (xs : List (Step × WorldMark)) → place_of key w.registry.runs ≡ None → users_made_with w xs key ≡ None
      → Never w xs
  never w [] none is = record { puts = refl; answers = refl; gone = none }
  never w (x ∷ xs) none is = by (has_run (step_of w x.0 x.1).1.registry) refl is (never (step_of w x.0 x.1).1 xs)
    where
      by : (b : Bool) → has_run (step_of w x.0 x.1).1.registry ≡ b
          → cond b (Some w.registry.users) (users_made_with (step_of w x.0 x.1).1 xs key) ≡ None
          → (place_of key (step_of w x.0 x.1).1.registry.runs ≡ None → users_made_with (step_of w x.0 x.1).1 xs key ≡ None
          → Never (step_of w x.0 x.1).1 xs) → Never w (x ∷ xs)
      by true e is rest = absurd (cc)
      by false e is rest =
          let later = rest (none_if (place_of key (step_of w x.0 x.1).1.registry.runs) e) is in
          record {
            puts = λ i. nothing (λ q. put_to w.registry key q (run_mark_of x.1)) (none_put w.registry none (run_mark_of x.1))
                (question_of_step w x.0 x.1) i ++ later.puts i;
            answers =
                λ i. nothing (λ q. answers_there w.registry key q (run_mark_of x.1)) (none_told w.registry none (run_mark_of x.1))
                (question_of_step w x.0 x.1) i ++ later.answers i;
            gone = later.gone;
          }
