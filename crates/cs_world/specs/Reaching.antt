-- Which run a step reaches.
use Rattle.std.specs.Prelude.{◌≡◌, ◌≢◌, ◌<◌, ℕ, true, length, slice_get, Option, None, Some}
use Rattle.std.specs.Prelude.{option_and_then}
use Rattle.cs_plan.specs.Scenes.{state_at}
use Rattle.cs_registry.specs.declared.found.Found.{Found}
use Rattle.cs_registry.specs.Keys.{Key}
use Rattle.cs_registry.specs.Naming.{key_in}
use Rattle.cs_registry.specs.Registries.{Registry, is_published}
use Rattle.cs_registry.specs.Runs.{held_at, place_of}
use Rattle.cs_session.specs.Questions.{Question, FindRun, AttachTo, CallOn}
use Rattle.cs_session.specs.Steps.{Step as SessionStep}
use Rattle.cs_tree_model.specs.Tree.{Tree}
use Rattle.cs_journal.specs.Runs.{RunOf, fresh_run}
use Rattle.cs_world.specs.declared.step.Step.{Step}
use Rattle.cs_world.specs.Marks.{WorldMark}
use Rattle.cs_world.specs.Questions.{question_of_step, question_on}
use Rattle.cs_world.specs.Steps.{on_connection}
use Rattle.cs_world.specs.Worlds.{World, session_at}

-- the place of the run that a question is put to
abbrev pub run_asked : Question → Option ℕ
run_asked (FindRun state_name run_name) = None
run_asked (AttachTo now place call) = Some place
run_asked (CallOn now place pass call) = Some place

-- the place of the run that a question is put to, or that it finds again
abbrev pub run_asked_or_found : Registry RunOf → Question → Option ℕ
run_asked_or_found registry (FindRun state_name run_name) =
    option_and_then (λ key. place_of key registry.runs) (key_in state_name run_name)
run_asked_or_found registry other = run_asked other

-- the place of the run that a step's question is put to, or that it finds again
abbrev pub run_asked_or_found_by : World → Step → WorldMark → Option ℕ
run_asked_or_found_by world step mark =
    option_and_then (run_asked_or_found world.registry) (question_of_step world step mark)

-- a step of a connection changes at most one run: the one that it asks; of every run that it
-- neither asks nor finds the key and the count of finds stay too; and it changes no other
-- connection
pub record ChangesWhatItAsks (world : World) (conn now : ℕ) (step : SessionStep)
    (mark : WorldMark) : Type 0 where
  pub runs : (place : ℕ)
      → option_and_then run_asked (question_on world conn now step mark) ≢ Some place
      → place < length world.registry.runs
      → held_at (on_connection world conn now step mark).1.registry.runs place
      ≡ held_at world.registry.runs place
  pub places : (place : ℕ)
      → option_and_then (run_asked_or_found world.registry) (question_on world conn now step mark)
      ≢ Some place
      → place < length world.registry.runs
      → slice_get (on_connection world conn now step mark).1.registry.runs place
      ≡ slice_get world.registry.runs place
  pub connections : (other : ℕ) → other ≢ conn
      → session_at (on_connection world conn now step mark).1 other ≡ session_at world other

-- the same runs and connections
abbrev pub KeepsRuns : World → World → Type 0
KeepsRuns world after =
    (after.registry.runs ≡ world.registry.runs) × (after.connections ≡ world.connections)

-- a run that was just made: over the tree of a published state, which is the state of its number,
-- with the users, and found once
pub record IsMade (registry : Registry RunOf) (key : Key) (found : Found RunOf) : Type 0 where
  pub published : is_published registry key.number ≡ true
  pub tree : Tree
  pub state : state_at registry.scene key.number ≡ Some tree
  pub fresh : found.held ≡ fresh_run tree registry.users
  pub once : found.finds ≡ 1

-- the run that was made since, if one was
abbrev pub NewRunIsState : World → World → Type 0
NewRunIsState world after = (key : Key) (found : Found RunOf)
    → slice_get after.registry.runs (length world.registry.runs) ≡ Some (key, found)
    → IsMade world.registry key found
