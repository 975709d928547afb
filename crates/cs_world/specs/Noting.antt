-- A step of a world whose runs are watched.
use Rattle.std.specs.Prelude.{◌≡◌, false, List, [], ◌++◌}
use Rattle.cs_plan.specs.Scenes.{Scene}
use Rattle.cs_registry.specs.Keys.{Key}
use Rattle.cs_users.specs.Rows.{Row}
use Rattle.cs_world.specs.declared.projecting.WatchedWorld.{WatchedWorld}
use Rattle.cs_world.specs.declared.reply.Reply.{Reply}
use Rattle.cs_world.specs.declared.step.Step.{Step}
use Rattle.cs_world.specs.Marks.{WorldMark}
use Rattle.cs_world.specs.Projections.{calls_of, puts_of}
use Rattle.cs_world.specs.Questions.{question_of_step}
use Rattle.cs_world.specs.Steps.{step_of}
use Rattle.cs_world.specs.Worlds.{World, new_world}

-- the watched world as a world: what it notes is left out
abbrev pub world_in : WatchedWorld → World
world_in watching =
    record { registry = watching.watched.runs; connections = watching.sessions.items }

-- with some mark the step has that reply and leads there, and the call that reaches the run by it
-- is noted last
pub record NotesStep (old : WatchedWorld) (step : Step) (reply : Reply) (new : WatchedWorld)
    : Type 0 where
  pub mark : WorldMark
  pub steps : (reply, world_in new) ≡ step_of (world_in old) step mark
  pub key : new.watched.key ≡ old.watched.key
  pub noted : new.watched.is_short ≡ false → (old.watched.is_short ≡ false)
      × (new.watched.calls.items
      ≡ old.watched.calls.items
      ++ calls_of (puts_of (world_in old) old.watched.key mark
      (question_of_step (world_in old) step mark)))

-- a new world, and nothing is noted
pub record IsStart (scene : Scene) (users : List Row) (key : Key) (watching : WatchedWorld)
    : Type 0 where
  pub world : world_in watching ≡ new_world scene users
  pub key_is : watching.watched.key ≡ key
  pub nothing : watching.watched.calls.items ≡ []
  pub not_short : watching.watched.is_short ≡ false
