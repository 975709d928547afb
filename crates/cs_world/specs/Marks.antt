-- The allocation that fails in a step, as data. A mark of one that the step doesn't make changes
-- nothing.
use Rattle.std.specs.Prelude.{Bool, true, false}
use Rattle.cs_journal.specs.Marks.{StepMark, Ample}

-- For a run: the run itself, which is made; a pass; or what a call in it takes.
pub data RunMark : Type 0 where
  NoRun : RunMark
  NoPass : RunMark
  InRun : StepMark → RunMark

-- For a step: the list of users that is loaded; the state that is made; what keeps it, once it is
-- published; what a connection itself takes; or what a run needs.
pub data WorldMark : Type 0 where
  NoUsers : WorldMark
  NoState : WorldMark
  NoKeeping : WorldMark
  NoOwn : WorldMark
  Below : RunMark → WorldMark

abbrev pub refuses_users : WorldMark → Bool
refuses_users NoUsers = true
refuses_users other = false

abbrev pub refuses_state : WorldMark → Bool
refuses_state NoState = true
refuses_state other = false

abbrev pub refuses_keeping : WorldMark → Bool
refuses_keeping NoKeeping = true
refuses_keeping other = false

abbrev pub refuses_own : WorldMark → Bool
refuses_own NoOwn = true
refuses_own other = false

-- what of the mark is about a run
abbrev pub run_mark_of : WorldMark → RunMark
run_mark_of (Below mark) = mark
run_mark_of other = InRun Ample

abbrev pub refuses_run : RunMark → Bool
refuses_run NoRun = true
refuses_run other = false

abbrev pub refuses_pass : RunMark → Bool
refuses_pass NoPass = true
refuses_pass other = false

-- what of the mark is about a call in a run
abbrev pub step_mark_of : RunMark → StepMark
step_mark_of (InRun mark) = mark
step_mark_of other = Ample
