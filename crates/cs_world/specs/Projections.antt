-- The calls of a list of steps that reach one run, and a run with only these calls.
use Rattle.std.specs.Prelude.{ℕ, ◌==◌, Bool, true, false, List, [], ◌∷◌, ◌++◌, map, Option}
use Rattle.std.specs.Prelude.{None, Some, option_and_then, Ok, Err, if◌then◌else◌}
use Rattle.std.specs.Option.{option_map_or}
use Rattle.cs_journal.specs.Marks.{Ample}
use Rattle.cs_journal.specs.Runs.{RunOf}
use Rattle.cs_permit.specs.declared.call.AttachCall.{AttachCall}
use Rattle.cs_permit.specs.declared.call.Call.{Call}
use Rattle.cs_permit.specs.declared.call.Call.TheVariants.{Attach}
use Rattle.cs_permit.specs.declared.fault.FindFault.TheVariants as not_found
use Rattle.cs_permit.specs.declared.fault.PassFault.TheVariants as no_pass
use Rattle.cs_registry.specs.Keys.{Key}
use Rattle.cs_registry.specs.Registries.{Registry}
use Rattle.cs_registry.specs.Runs.{held_at, place_of}
use Rattle.cs_run.specs.declared.answer.Answer.{Answer}
use Rattle.cs_run.specs.declared.answer.Answer.TheVariants.{Short}
use Rattle.cs_session.specs.Questions.{Question, FindRun, AttachTo, CallOn}
use Rattle.cs_session.specs.Questions.{PortAnswer, FindAnswer, AttachAnswer, CallAnswer}
use Rattle.cs_world.specs.declared.run_call.RunCall.{RunCall}
use Rattle.cs_world.specs.declared.step.Step.{Step}
use Rattle.cs_world.specs.Ample.{all_ample}
use Rattle.cs_world.specs.Asking.{answer_of_runs}
use Rattle.cs_world.specs.Marks.{WorldMark, RunMark, InRun, run_mark_of, step_mark_of}
use Rattle.cs_world.specs.Questions.{question_of_step}
use Rattle.cs_world.specs.Runs.{attach_on, call_on}
use Rattle.cs_world.specs.Steps.{step_of}
use Rattle.cs_world.specs.Worlds.{World}

-- the run of that key, if it was found
abbrev pub run_with_key : Registry RunOf → Key → Option RunOf
run_with_key registry key = option_and_then (held_at registry.runs) (place_of key registry.runs)

-- ---- what reaches it

-- the run of the key is at that place
abbrev pub is_at : Registry RunOf → Key → ℕ → Bool
is_at registry key place =
    option_map_or (λ own. own == place) (place_of key registry.runs) false

-- how many passes the run at a place gave: the number of the next one
abbrev pub next_pass : Registry RunOf → ℕ → ℕ
next_pass registry place = option_map_or (λ run. run.passes) (held_at registry.runs place) 0

-- an answer says out of memory
abbrev pub answer_says_out_of_memory : Answer → Bool
answer_says_out_of_memory Short = true
answer_says_out_of_memory answer = false

abbrev pub port_says_out_of_memory : PortAnswer → Bool
port_says_out_of_memory (FindAnswer (Err not_found.Memory)) = true
port_says_out_of_memory (AttachAnswer (Err no_pass.Memory)) = true
port_says_out_of_memory (AttachAnswer (Ok given)) = answer_says_out_of_memory given.1
port_says_out_of_memory (CallAnswer answer) = answer_says_out_of_memory answer
port_says_out_of_memory answer = false

-- the allocation that failed: a mark counts only if the answer says out of memory
abbrev pub mark_that_counts : PortAnswer → RunMark → RunMark
mark_that_counts answer mark = if port_says_out_of_memory answer then mark else InRun Ample

-- what a question puts to the run of a key: an attach, or another call, with the allocation that
-- failed, if one did
abbrev pub put_to : Registry RunOf → Key → Question → RunMark → List (RunCall × RunMark)
put_to registry key (FindRun state_name run_name) mark = []
put_to registry key (AttachTo now place call) mark =
    if is_at registry key place
    then (
      record { pass = next_pass registry place; moment = now; call = Attach call },
      mark_that_counts (answer_of_runs registry (AttachTo now place call) mark).0 mark,
    ) ∷ []
    else []
put_to registry key (CallOn now place pass call) mark =
    if is_at registry key place
    then (
      record { pass = pass; moment = now; call = call },
      mark_that_counts (answer_of_runs registry (CallOn now place pass call) mark).0 mark,
    ) ∷ []
    else []

-- and what that is answered
abbrev pub answers_there : Registry RunOf → Key → Question → RunMark → List PortAnswer
answers_there registry key question mark =
    map (λ put. (answer_of_runs registry question mark).0) (put_to registry key question mark)

-- what a step puts to it, by the question that it asks, if it asks one
abbrev pub puts_of : World → Key → WorldMark → Option Question → List (RunCall × RunMark)
puts_of world key mark asked =
    option_map_or (λ question. put_to world.registry key question (run_mark_of mark)) asked []

-- and what that is answered
abbrev pub answers_by : World → Key → WorldMark → Option Question → List PortAnswer
answers_by world key mark asked =
    option_map_or (λ question. answers_there world.registry key question (run_mark_of mark)) asked
    []

-- the calls of a list of steps that reach the run of a key, each with the allocation that failed,
-- if one did
abbrev pub projection_of : World → List (Step × WorldMark) → Key → List (RunCall × RunMark)
projection_of world [] key = []
projection_of world (one ∷ rest) key =
    puts_of world key one.1 (question_of_step world one.0 one.1)
    ++ projection_of (step_of world one.0 one.1).1 rest key

-- these calls, whatever of them memory refused
abbrev pub calls_of : List (RunCall × RunMark) → List RunCall
calls_of puts = map (λ put. put.0) puts

-- the calls that steps put to the run of a key if memory refuses nothing
abbrev pub calls_put : World → List Step → Key → List RunCall
calls_put world steps key = calls_of (projection_of world (all_ample steps) key)

-- what the calls of a list are answered
abbrev pub answers_of : World → List (Step × WorldMark) → Key → List PortAnswer
answers_of world [] key = []
answers_of world (one ∷ rest) key =
    answers_by world key one.1 (question_of_step world one.0 one.1)
    ++ answers_of (step_of world one.0 one.1).1 rest key

-- ---- a run with only these calls

abbrev pub answer_before : PortAnswer × RunOf → List PortAnswer × RunOf → List PortAnswer × RunOf
answer_before one rest = (one.0 ∷ rest.0, rest.1)

-- the attach that a call is, if it is one
abbrev pub attach_in : Call → Option AttachCall
attach_in (Attach attach) = Some attach
attach_in other = None

-- a call on a run: an attach gets a pass, and any other has one
abbrev pub alone_by : RunOf → ℕ → ℕ → Call → RunMark → Option AttachCall → PortAnswer × RunOf
alone_by run now pass call mark (Some attach) =
    (AttachAnswer (attach_on run now attach mark).0, (attach_on run now attach mark).1)
alone_by run now pass call mark None = (
  CallAnswer (call_on run now pass call (step_mark_of mark)).0,
  (call_on run now pass call (step_mark_of mark)).1,
)

abbrev pub call_alone : RunOf → ℕ → ℕ → Call → RunMark → PortAnswer × RunOf
call_alone run now pass call mark = alone_by run now pass call mark (attach_in call)

-- the answers of a run to calls, and the run then
abbrev pub calls_alone : RunOf → List (RunCall × RunMark) → List PortAnswer × RunOf
calls_alone run [] = ([], run)
calls_alone run (one ∷ rest) =
    answer_before (call_alone run one.0.moment one.0.pass one.0.call one.1)
    (calls_alone (call_alone run one.0.moment one.0.pass one.0.call one.1).1 rest)
