-- What the runs of a world answer to a connection's questions: the registry answers a find, and
-- one run an attach or a call.
use Rattle.std.specs.Prelude.{◌≡◌, ℕ, Option, None, Some, Result, Err, if◌then◌else◌}
use Rattle.std.specs.Option.{option_map, option_map_or}
use Rattle.cs_names.specs.declared.rule_id.RuleId.TheVariants.{S5}
use Rattle.cs_plan.specs.Scenes.{state_at}
use Rattle.cs_permit.specs.declared.fault.FindFault.{FindFault}
use Rattle.cs_permit.specs.declared.fault.FindFault.TheVariants.{Unpublished}
use Rattle.cs_permit.specs.declared.fault.PassFault.{PassFault}
use Rattle.cs_permit.specs.declared.fault.PassFault.TheVariants.{Foreign}
use Rattle.cs_registry.specs.Finds.{found}
use Rattle.cs_registry.specs.Keys.{Key}
use Rattle.cs_registry.specs.Naming.{key_in}
use Rattle.cs_registry.specs.Registries.{Registry}
use Rattle.cs_registry.specs.Runs.{held_at, with_held}
use Rattle.cs_run.specs.declared.answer.Answer.{Answer}
use Rattle.cs_run.specs.declared.answer.Answer.TheVariants.{Denied}
use Rattle.cs_session.specs.Questions.{Question, FindRun, AttachTo, CallOn}
use Rattle.cs_session.specs.Questions.{PortAnswer, FindAnswer, AttachAnswer, CallAnswer}
use Rattle.cs_world.specs.Marks.{RunMark, step_mark_of, refuses_run}
use Rattle.cs_journal.specs.Runs.{RunOf, fresh_run}
use Rattle.cs_world.specs.Runs.{attach_on, call_on}

-- ---- find

-- a new run of the state of a number, over its tree, if memory gives one
abbrev pub given_run : Registry RunOf → ℕ → RunMark → Option RunOf
given_run registry number mark =
    if refuses_run mark then None
    else option_map (λ tree. fresh_run tree registry.users) (state_at registry.scene number)

abbrev pub find_answer : Result ℕ FindFault × Registry RunOf → PortAnswer × Registry RunOf
find_answer pair = (FindAnswer pair.0, pair.1)

abbrev pub found_by : Registry RunOf → RunMark → Option Key → PortAnswer × Registry RunOf
found_by registry mark None = (FindAnswer (Err Unpublished), registry)
found_by registry mark (Some key) =
    find_answer (found registry key (given_run registry key.number mark))

-- ---- attach and call, on the run at a place

abbrev pub with_run_at : Registry RunOf → ℕ → RunOf → Registry RunOf
with_run_at registry place run = record registry { runs = with_held registry.runs place run }

abbrev pub attach_answer : Registry RunOf → ℕ → Result (ℕ × Answer) PassFault × RunOf
    → PortAnswer × Registry RunOf
attach_answer registry place pair = (AttachAnswer pair.0, with_run_at registry place pair.1)

abbrev pub call_answer : Registry RunOf → ℕ → Answer × RunOf → PortAnswer × Registry RunOf
call_answer registry place pair = (CallAnswer pair.0, with_run_at registry place pair.1)

-- the answer to a question in which the allocation that the mark names fails, and the registry then
abbrev pub answer_of_runs : Registry RunOf → Question → RunMark → PortAnswer × Registry RunOf
answer_of_runs registry (FindRun state_name run_name) mark =
    found_by registry mark (key_in state_name run_name)
answer_of_runs registry (AttachTo now place call) mark =
    option_map_or (λ run. attach_answer registry place (attach_on run now call mark))
    (held_at registry.runs place) (AttachAnswer (Err Foreign), registry)
answer_of_runs registry (CallOn now place pass call) mark =
    option_map_or
    (λ run. call_answer registry place (call_on run now pass call (step_mark_of mark)))
    (held_at registry.runs place) (CallAnswer (Denied S5), registry)

-- the answer is the definition's, whether an allocation fails or none
abbrev pub IsGiven : Registry RunOf → Question → PortAnswer → Registry RunOf → Type 0
IsGiven registry question answer after =
    (mark : RunMark) × ((answer, after) ≡ answer_of_runs registry question mark)
