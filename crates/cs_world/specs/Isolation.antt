-- Runs don't reach one another.
use Rattle.std.specs.Prelude.{◌≡◌, ℕ, Bool, true, false, List, [], ◌∷◌, ◌++◌, Option, None, Some}
use Rattle.std.specs.Prelude.{is_some, option_map, if◌then◌else◌}
use Rattle.cs_journal.specs.Runs.{RunOf, fresh_run}
use Rattle.cs_plan.specs.Scenes.{state_at}
use Rattle.cs_registry.specs.Keys.{Key}
use Rattle.cs_registry.specs.Runs.{place_of}
use Rattle.cs_session.specs.declared.message.Message.{Message}
use Rattle.cs_session.specs.declared.reply.Reply.{Reply as SessionReply}
use Rattle.cs_session.specs.Steps.{Step as SessionStep}
use Rattle.cs_users.specs.Rows.{Row}
use Rattle.cs_world.specs.declared.reply.Reply.{Reply}
use Rattle.cs_world.specs.declared.step.Step.{Step}
use Rattle.cs_world.specs.Ample.{nothing_refused, says_out_of_memory}
use Rattle.cs_world.specs.Groups.{AreApart, NoneMeetsLimit, first_replies, first_steps}
use Rattle.cs_world.specs.Lists.{AreOwnSteps, IsStepList, steps_of, steps_on}
use Rattle.cs_world.specs.Marks.{WorldMark}
use Rattle.cs_world.specs.Places.{with_places}
use Rattle.cs_world.specs.Projections.{calls_alone, answers_of, projection_of, run_with_key}
use Rattle.cs_world.specs.Steps.{step_of}
use Rattle.cs_world.specs.Worlds.{World, session_at, new_world}

-- the run of a key after steps, if it was found
abbrev pub run_after : World → List (Step × WorldMark) → Key → Option RunOf
run_after world marked key = run_with_key (steps_of world marked).1.registry key

-- the list of users at the time of the first granted find of a key, which made its run; none if no
-- find of it was granted. The steps must begin in a world in which the key has no run
abbrev pub users_made_with : World → List (Step × WorldMark) → Key → Option (List Row)
users_made_with world [] key = None
users_made_with world (one ∷ rest) key =
    if is_some (place_of key (step_of world one.0 one.1).1.registry.runs)
    then Some world.registry.users
    else users_made_with (step_of world one.0 one.1).1 rest key

-- ---- a run is what reached it

-- the run has the users of its first granted find; and it is the fresh run of its state, with
-- these, after only the calls that reached it, which are answered as they are there
pub record IsAlone (world : World) (marked : List (Step × WorldMark)) (key : Key) (run : RunOf)
    : Type 0 where
  pub users : users_made_with world marked key ≡ Some run.users
  pub first_run : RunOf
  pub begins : option_map (λ tree. fresh_run tree run.users)
      (state_at world.registry.scene key.number) ≡ Some first_run
  pub answers : answers_of world marked key
      ≡ (calls_alone first_run (projection_of world marked key)).0
  pub ends : run ≡ (calls_alone first_run (projection_of world marked key)).1

-- ---- the same calls leave the same run

-- if both lists found the run of the key, each from its world, it has the same users
abbrev pub HaveSameUsers : World → List (Step × WorldMark) → World → List (Step × WorldMark)
    → Key → Type 0
HaveSameUsers world ones second others key =
    (run other : RunOf) → run_after world ones key ≡ Some run
    → run_after second others key ≡ Some other → run.users ≡ other.users

-- what both lists put to the run of the key is answered the same, and if both found it, it is the
-- same run
pub record AreSame (world : World) (ones : List (Step × WorldMark)) (second : World)
    (others : List (Step × WorldMark)) (key : Key) : Type 0 where
  pub answers : answers_of world ones key ≡ answers_of second others key
  pub runs : (run other : RunOf) → run_after world ones key ≡ Some run
      → run_after second others key ≡ Some other → run ≡ other

-- ---- the first group doesn't notice the second

-- without the second group the first has the same replies; its connections are then the same but
-- for the places of their runs; and if a message comes next on one of these, whose finds name no
-- run of the second group and don't meet the limit of runs, it takes the same steps and has the
-- same reply
pub record IsSameWithoutSecond (first : ℕ → Bool) (world : World)
    (marked : List (Step × WorldMark)) : Type 0 where
  pub replies : (steps_of world (first_steps first marked)).0
      ≡ first_replies first marked (steps_of world marked).0
  pub places : ℕ → ℕ
  pub connections : (conn : ℕ) → first conn ≡ true
      → session_at (steps_of world marked).1 conn
      ≡ with_places places (session_at (steps_of world (first_steps first marked)).1 conn)
  pub messages : (conn now : ℕ) (message : Message) (own : List (SessionStep × WorldMark))
      (reply : SessionReply) → first conn ≡ true
      → AreApart first (marked ++ steps_on conn now own)
      → NoneMeetsLimit (steps_of world marked).1 (steps_on conn now own)
      → AreOwnSteps message conn now (steps_of world marked).1 own reply
      → AreOwnSteps message conn now (steps_of world (first_steps first marked)).1 own reply

-- ---- the three laws

-- of steps from a new world, each with the allocation that fails in it
pub record NoneReachesAnother (world : World) (marked : List (Step × WorldMark)) : Type 0 where
  -- each run that was found is what reached it
  pub alone : (key : Key) (run : RunOf) → run_after world marked key ≡ Some run
      → IsAlone world marked key run
  -- any other list that puts the same to a run leaves the same run; it may begin with other users,
  -- in a new world of the same scene
  pub same : (users : List Row) (others : List (Step × WorldMark)) (key : Key)
      → HaveSameUsers world marked (new_world world.registry.scene users) others key
      → projection_of world marked key
      ≡ projection_of (new_world world.registry.scene users) others key
      → AreSame world marked (new_world world.registry.scene users) others key
  -- of two groups of connections that find no run in common, if no find meets the limit of runs,
  -- the first doesn't notice the second
  pub apart : (first : ℕ → Bool) → AreApart first marked → NoneMeetsLimit world marked
      → IsSameWithoutSecond first world marked

-- ---- of a list that was run

-- an allocation fails only in steps whose replies say so
abbrev pub RefusesOnlyWhereTold : World → List (Step × WorldMark) → Type 0
RefusesOnlyWhereTold world [] = Unit {0}
RefusesOnlyWhereTold world (one ∷ rest) =
    (says_out_of_memory (step_of world one.0 one.1).0 ≡ false → one.1 ≡ nothing_refused)
    × RefusesOnlyWhereTold (step_of world one.0 one.1).1 rest

-- the steps have these replies and lead there, with marks that `taken` has, one a step; of these an
-- allocation fails only if the reply says so; and no run reaches another
pub record IsIsolated (world : World) (steps : List Step) (replies : List Reply) (after : World)
    : Type 0 where
  pub taken : IsStepList world steps replies after
  pub wants : RefusesOnlyWhereTold world taken.marked
  pub laws : NoneReachesAnother world taken.marked
