-- What a run answers under the passes that it gave, by their numbers. A run is seen as its journal
-- has it.
use Rattle.std.specs.Prelude.{ℕ, nat_le, nat_lt, Result, Ok, Err, if◌then◌else◌}
use Rattle.cs_names.specs.declared.limits.TheConstants.{RUN_ATTACHES}
use Rattle.cs_names.specs.declared.rule_id.RuleId.TheVariants.{S5}
use Rattle.cs_permit.specs.declared.call.AttachCall.{AttachCall}
use Rattle.cs_permit.specs.declared.call.Call.{Call}
use Rattle.cs_permit.specs.declared.call.Call.TheVariants.{Attach}
use Rattle.cs_permit.specs.declared.fault.PassFault.{PassFault}
use Rattle.cs_permit.specs.declared.fault.PassFault.TheVariants.{Room, Memory}
use Rattle.cs_run.specs.declared.answer.Answer.{Answer}
use Rattle.cs_run.specs.declared.answer.Answer.TheVariants.{Denied}
use Rattle.cs_journal.specs.Marks.{StepMark}
use Rattle.cs_journal.specs.Runs.{RunOf, fresh_pass, with_pass}
use Rattle.cs_journal.specs.Steps.{StepResult, step}
use Rattle.cs_world.specs.Marks.{RunMark, step_mark_of, refuses_pass}

-- ---- a call

-- what a step answers, and the run that it leaves
abbrev pub answer_and_run : StepResult → Answer × RunOf
answer_and_run stepped = (stepped.answer, stepped.run)

-- a run's step under the pass of that number; neither its answer nor the run then depends on the
-- pass's receipts
abbrev pub run_step : RunOf → ℕ → ℕ → Call → StepMark → Answer × RunOf
run_step run now pass call mark = answer_and_run (step run (fresh_pass pass) now call mark)

-- a call under a pass that the run gave; S5 if it gave no such pass
abbrev pub call_on : RunOf → ℕ → ℕ → Call → StepMark → Answer × RunOf
call_on run now pass call mark =
    if nat_lt pass run.passes then run_step run now pass call mark else (Denied S5, run)

-- ---- an attach

-- the number of the pass with the answer
abbrev pub with_pass_number : ℕ → Answer × RunOf → Result (ℕ × Answer) PassFault × RunOf
with_pass_number pass pair = (Ok (pass, pair.0), pair.1)

-- an attach is a call under a new pass, whose number is how many there were
abbrev pub attach_on : RunOf → ℕ → AttachCall → RunMark → Result (ℕ × Answer) PassFault × RunOf
attach_on run now call mark =
    if nat_le RUN_ATTACHES run.passes then (Err Room, run)
    else if refuses_pass mark then (Err Memory, run)
    else with_pass_number run.passes
    (run_step (with_pass run) now run.passes (Attach call) (step_mark_of mark))
