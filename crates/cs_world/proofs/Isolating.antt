-- The three laws of isolation, of a list of steps from a new world.
use Rattle.std.proofs.Common.{◌≡◌, ◌∙◌, ℕ, List, [], Option, None, Some, refl, sym, ap, subst}
use Rattle.std.specs.Prelude.{option_and_then}
use Rattle.std.specs.Option.{option_map}
use Rattle.cs_journal.specs.Runs.{RunOf, fresh_run}
use Rattle.cs_plan.specs.Scenes.{Scene, state_at}
use Rattle.cs_registry.specs.Keys.{Key}
use Rattle.cs_registry.specs.Runs.{held_at}
use Rattle.cs_session.specs.Questions.{PortAnswer}
use Rattle.cs_tree_model.specs.Tree.{Tree}
use Rattle.cs_users.specs.Rows.{Row}
use Rattle.cs_world.specs.declared.run_call.RunCall.{RunCall}
use Rattle.cs_world.specs.declared.reply.Reply.{Reply}
use Rattle.cs_world.specs.declared.step.Step.{Step}
use Rattle.cs_world.specs.Isolation.{AreSame, HaveSameUsers, IsAlone, IsIsolated, NoneReachesAnother, run_after, users_made_with}
use Rattle.cs_world.specs.Lists.{IsStepList, steps_of}
use Rattle.cs_world.specs.Marks.{WorldMark, RunMark}
use Rattle.cs_world.specs.Projections.{calls_alone, answers_of, projection_of}
use Rattle.cs_world.specs.Worlds.{World, new_world}
use Rattle.cs_world.proofs.Alone.{alone_there, first_found, first_of, from, from_none}
use Rattle.cs_world.proofs.Began.{made_with, never, stands}
use Rattle.cs_world.proofs.Grouping.{groups}
use Rattle.cs_world.proofs.Remarked.{run_told}
use Rattle.cs_world.proofs.Users.{alone_users}

module _ (scene : Scene) (users : List Row) (key : Key) where
  abbrev w : World
  w = new_world scene users

  -- the run that the state of the key begins as, with these users
  abbrev start : List Row → Option RunOf
  start own = option_map (λ tree. fresh_run tree own) (state_at scene key.number)

  abbrev puts : List (Step × WorldMark) → List (RunCall × RunMark)
  puts marked = projection_of w marked key

  ends : (marked : List (Step × WorldMark)) (own : List Row) → users_made_with w marked key ≡ Some own → (o : Option RunOf) → start own ≡ o
      → ◌≡◌ {A = List PortAnswer × Option RunOf} (answers_of w marked key, first_of key own (steps_of w marked).1.registry)
      (from o (puts marked))
  ends marked own stood o is =
      alone_there key own w marked (made_with key own w marked stood) ∙ ap (λ (o : Option RunOf). from o (puts marked)) is

  -- ---- a run that was found is that of only the calls that reached it

  record IsFrom (marked : List (Step × WorldMark)) (run : RunOf) : Type 0 where
    own : List Row
    stood : users_made_with w marked key ≡ Some own
    fresh : RunOf
    begins : start own ≡ Some fresh
    answers : answers_of w marked key ≡ (calls_alone fresh (puts marked)).0
    ends : run ≡ (calls_alone fresh (puts marked)).1

  from_by : (marked : List (Step × WorldMark)) (own : List Row) → users_made_with w marked key ≡ Some own → (o : Option RunOf)
      → start own ≡ o → (run : RunOf) → run_after w marked key ≡ Some run → IsFrom marked run
  from_by marked own stood None is run found =
      let there : first_of key own (steps_of w marked).1.registry ≡ Some run =
      first_found key own (steps_of w marked).1.registry run found in
      absurd (let none : first_of key own (steps_of w marked).1.registry ≡ None =
      ap (λ (x : List PortAnswer × Option RunOf). x.1) (ends marked own stood None is) in cc)
  from_by marked own stood (Some fresh) is run found =
      let its = ends marked own stood (Some fresh) is in
      let there : Some run ≡ Some (calls_alone fresh (puts marked)).1 =
      sym (first_found key own (steps_of w marked).1.registry run found) ∙ ap (λ (x : List PortAnswer × Option RunOf). x.1) its in
      record {
        own = own;
        stood = stood;
        fresh = fresh;
        begins = is;
        answers = ap (λ (x : List PortAnswer × Option RunOf). x.0) its;
        ends = cc;
      }

  began : (marked : List (Step × WorldMark)) (run : RunOf) → run_after w marked key ≡ Some run → (o : Option (List Row))
      → users_made_with w marked key ≡ o → IsFrom marked run
  began marked run found None stood =
      absurd (let its = never key w marked refl stood in let none : run_after w marked key ≡ None =
      ap (λ (o : Option ℕ). option_and_then (held_at (steps_of w marked).1.registry.runs) o) its.gone in cc)
  began marked run found (Some own) stood = from_by marked own stood (start own) refl run found

  its_from : (marked : List (Step × WorldMark)) (run : RunOf) → run_after w marked key ≡ Some run → IsFrom marked run
  its_from marked run found = began marked run found (users_made_with w marked key) refl

  begin_users : (own : List Row) (o : Option Tree) (fresh : RunOf) → option_map (λ tree. fresh_run tree own) o ≡ Some fresh
      → fresh.users ≡ own
  begin_users own None fresh is = absurd (cc)
  begin_users own (Some tree) fresh is = let same : fresh_run tree own ≡ fresh = cc in ap (λ (r : RunOf). r.users) (sym same)

  own_users : (marked : List (Step × WorldMark)) (run : RunOf) (its : IsFrom marked run) → run.users ≡ its.own
  own_users marked run its =
      ap (λ (r : RunOf). r.users) its.ends ∙ alone_users its.fresh (puts marked) ∙ begin_users its.own (state_at scene key.number) its.fresh
      its.begins

  is_alone : (marked : List (Step × WorldMark)) (run : RunOf) → run_after w marked key ≡ Some run → IsAlone w marked key run
  is_alone marked run found =
      let its = its_from marked run found in
      record {
        users = its.stood ∙ ap Some (sym (own_users marked run its));
        first_run = its.fresh;
        begins = ap start (own_users marked run its) ∙ its.begins;
        answers = its.answers;
        ends = its.ends;
      }

  -- ---- the same calls leave the same run

  -- if nothing was put to it, nothing was answered
  untold : (marked : List (Step × WorldMark)) (o : Option (List Row)) → users_made_with w marked key ≡ o → puts marked ≡ []
      → answers_of w marked key ≡ []
  untold marked None stood none = (never key w marked refl stood).answers
  untold marked (Some own) stood none =
      ap (λ (x : List PortAnswer × Option RunOf). x.0) (ends marked own stood (start own) refl) ∙ ap
      (λ (l : List (RunCall × RunMark)). (from (start own) l).0) none
      ∙ ap (λ (x : List PortAnswer × Option RunOf). x.0) (sym (from_none (start own)))

module _ (scene : Scene) (users others : List Row) (key : Key) (xs ys : List (Step × WorldMark))
    (have : HaveSameUsers (new_world scene users) xs (new_world scene others) ys key)
    (alike : projection_of (new_world scene users) xs key ≡ projection_of (new_world scene others) ys key) where
  abbrev one_world : World
  one_world = new_world scene users

  abbrev other_world : World
  other_world = new_world scene others

  abbrev puts_one : List (RunCall × RunMark)
  puts_one = projection_of one_world xs key

  abbrev puts_other : List (RunCall × RunMark)
  puts_other = projection_of other_world ys key

  -- both runs began the same
  same_fresh : (run other : RunOf) → run_after one_world xs key ≡ Some run → run_after other_world ys key ≡ Some other
      → (one : IsFrom scene users key xs run) (two : IsFrom scene others key ys other)
      → two.fresh ≡ one.fresh
  same_fresh run other found there one two =
      let own : two.own ≡ one.own =
      sym (own_users scene others key ys other two) ∙ sym (have run other found there) ∙ own_users scene users key xs run one in
      let both : Some two.fresh ≡ Some one.fresh =
      sym two.begins ∙ ap (λ (list : List Row). option_map (λ tree. fresh_run tree list) (state_at scene key.number)) own ∙ one.begins
      in
      cc

  runs_same : (run other : RunOf) → run_after one_world xs key ≡ Some run → run_after other_world ys key ≡ Some other
      → (answers_of one_world xs key ≡ answers_of other_world ys key) × (run ≡ other)
  runs_same run other found there =
      let one = its_from scene users key xs run found in
      let two = its_from scene others key ys other there in
      let fresh = same_fresh run other found there one two in
      let both : calls_alone one.fresh puts_one ≡ calls_alone two.fresh puts_other = λ i. calls_alone (sym fresh i) (alike i) in (
        one.answers ∙ ap (λ (x : List PortAnswer × RunOf). x.0) both ∙ sym two.answers,
        one.ends ∙ ap (λ (x : List PortAnswer × RunOf). x.1) both ∙ sym two.ends,
      )

  answers_by : (o p : Option (List Row)) → users_made_with one_world xs key ≡ o → users_made_with other_world ys key ≡ p
      → answers_of one_world xs key ≡ answers_of other_world ys key
  answers_by None p is js =
      let its = never key one_world xs refl is in
      its.answers ∙ sym (untold scene others key ys p js (sym alike ∙ its.puts))
  answers_by (Some own) None is js =
      let its = never key other_world ys refl js in
      untold scene users key xs (Some own) is (alike ∙ its.puts) ∙ sym its.answers
  answers_by (Some own) (Some other) is js =
      let one = stands key own one_world xs is in
      let two = stands key other other_world ys js in
      (runs_same one.0 two.0 one.1 two.1).0

  pub same : AreSame one_world xs other_world ys key
  same = record {
    answers = answers_by (users_made_with one_world xs key) (users_made_with other_world ys key) refl refl;
    runs = λ run other found there. (runs_same run other found there).1;
  }

module _ (scene : Scene) (users : List Row) where
  -- all three, of every list
  pub none_reaches : (marked : List (Step × WorldMark)) → NoneReachesAnother (new_world scene users) marked
  none_reaches marked = record {
    alone = λ key run found. is_alone scene users key marked run found;
    same = λ second others key have alike. same scene users second key marked others have alike;
    apart = λ first apart few. groups first scene users marked few apart;
  }

  -- and of one that was run
  pub by_run : (w : World) → w ≡ new_world scene users → (steps : List Step) (replies : List Reply) (w' : World)
      → IsStepList w steps replies w' → IsIsolated w steps replies w'
  by_run w new steps replies w' run =
      let its = run_told w steps replies w' run in
      record {
        taken = its.0;
        wants = its.1;
        laws = subst (λ (x : World). NoneReachesAnother x its.0.marked) (sym new) (none_reaches its.0.marked);
      }
