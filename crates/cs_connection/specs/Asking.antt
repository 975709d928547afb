-- What the runs that threads share answer to a connection's questions. The runs may change between
-- two questions; what the connection keeps doesn't.
use Rattle.std.specs.Prelude.{◌≡◌, ◌≤◌, ◌^◌, ℕ, ◌⊎◌, length, slice_get}
use Rattle.std.specs.Prelude.{Option, None, Some, Result, Ok, Err}
use Rattle.cs_names.specs.declared.rule_id.RuleId.TheVariants.{S5}
use Rattle.cs_journal.specs.Runs.{PassOf, fresh_pass}
use Rattle.cs_permit.specs.declared.call.AttachCall.{AttachCall}
use Rattle.cs_permit.specs.declared.call.Call.{Call}
use Rattle.cs_permit.specs.declared.call.Call.TheVariants.{Attach}
use Rattle.cs_permit.specs.declared.fault.FindFault.{FindFault}
use Rattle.cs_permit.specs.declared.fault.FindFault.TheVariants.{Unpublished}
use Rattle.cs_permit.specs.declared.fault.PassFault.{PassFault}
use Rattle.cs_permit.specs.declared.fault.PassFault.TheVariants.{Foreign, Memory, Room}
use Rattle.cs_registry.specs.Keys.{Key}
use Rattle.cs_registry.specs.Naming.{key_in}
use Rattle.cs_run.specs.declared.answer.Answer.{Answer}
use Rattle.cs_run.specs.declared.answer.Answer.TheVariants.{Denied}
use Rattle.cs_session.specs.Questions.{Question, FindRun, AttachTo, CallOn}
use Rattle.cs_session.specs.Questions.{PortAnswer, FindAnswer, AttachAnswer, CallAnswer}
use Rattle.cs_shared_runs.specs.Serving.{HasRuns}
use Rattle.cs_shared_runs.specs.Answers.{GivesAnswer, GivesAttach, IsStepOfServedRun, IsAnswerOf}
use Rattle.cs_connection.specs.Kept.{FoundRuns, given_by, kept_with_pass, put_pass, with_run}

-- the run of that key is found, and comes last among those kept. Else nothing changes; the fault is
-- Unpublished if the name names no run
abbrev pub KeptFinds : FoundRuns → Option Key → Result ℕ FindFault → FoundRuns → Type 0
KeptFinds old None answer new = (answer ≡ Err Unpublished) × (new ≡ old)
KeptFinds old (Some key) (Ok place) new = (place ≡ length old.runs) × (new ≡ with_run old key)
KeptFinds old (Some key) (Err fault) new = new ≡ old

-- Code for any server has `answered` and `attached` only from a run under its lock.
module _ (serves : HasRuns) (answered : GivesAnswer) (attached : GivesAttach) where
  -- A user is attached under a new pass: the run of the key gave the answer, and the pass comes
  -- last.
  pub record IsAttached (old : FoundRuns) (now place : ℕ) (call : AttachCall) (key : Key)
      (pass_place : ℕ) (answer : Answer) (new : FoundRuns) : Type 0 where
    pub pass : PassOf
    pub place_is : pass_place ≡ length old.passes
    -- the attach to the run under its lock gives this
    pub source : attached key now (Attach call) (Ok (pass, answer))
    pub told :
        IsStepOfServedRun serves key.number (fresh_pass pass.number) now (Attach call) answer pass
    pub kept : new ≡ kept_with_pass old place pass

  -- Why an attach to the run of the key gives no pass.
  pub data IsNotAttached (old : FoundRuns) (now : ℕ) (call : AttachCall) (key : Key)
      (fault : PassFault) : Type 0 where
    -- the run's fault, which the attach to the run under its lock gives
    RefusedByRun : attached key now (Attach call) (Err fault)
        → IsNotAttached old now call key fault
    -- the port has as many passes as it can have
    PortIsFull : 2 ^ 32 ≤ length old.passes → fault ≡ Room → IsNotAttached old now call key fault
    -- no memory to keep the pass
    NoMemory : fault ≡ Memory → IsNotAttached old now call key fault

  -- by the key of the run at the place; Foreign if there is no run. Without a pass nothing changes
  abbrev pub KeptAttaches : FoundRuns → ℕ → ℕ → AttachCall → Option Key
      → Result (ℕ × Answer) PassFault → FoundRuns → Type 0
  KeptAttaches old now place call None answer new = (answer ≡ Err Foreign) × (new ≡ old)
  KeptAttaches old now place call (Some key) (Ok x) new =
      IsAttached old now place call key x.0 x.1 new
  KeptAttaches old now place call (Some key) (Err fault) new =
      IsNotAttached old now call key fault × (new ≡ old)

  -- The run at a place gave the pass at a place: it gave the answer, and no other pass changes.
  pub record IsCalled (old : FoundRuns) (now place pass_place : ℕ) (call : Call) (answer : Answer)
      (new : FoundRuns) : Type 0 where
    pub key : Key
    pub before : PassOf
    pub pass : PassOf
    pub run_is : slice_get old.runs place ≡ Some key
    pub pass_is : slice_get old.passes pass_place ≡ Some (given_by place before)
    -- the call on the run under its lock gives this
    pub source : answered key before now call answer pass
    pub told : IsAnswerOf serves key.number before now call answer pass
    pub kept : new ≡ put_pass old pass_place place pass

  -- It didn't: S5, and nothing changes.
  pub record IsStray (old : FoundRuns) (place pass_place : ℕ) (answer : Answer)
      (new : FoundRuns) : Type 0 where
    pub stray : (pass : PassOf) → slice_get old.passes pass_place ≡ Some (given_by place pass) → ⊥
    pub denied : answer ≡ Denied S5
    pub kept : new ≡ old

  abbrev pub KeptCalls : FoundRuns → ℕ → ℕ → ℕ → Call → Answer → FoundRuns → Type 0
  KeptCalls old now place pass_place call answer new =
      IsCalled old now place pass_place call answer new ⊎ IsStray old place pass_place answer new

  -- what a question is answered
  abbrev pub Gives : FoundRuns → Question → PortAnswer → FoundRuns → Type 0
  Gives old (FindRun state_name run_name) (FindAnswer answer) new =
      KeptFinds old (key_in state_name run_name) answer new
  Gives old (AttachTo now place call) (AttachAnswer answer) new =
      KeptAttaches old now place call (slice_get old.runs place) answer new
  Gives old (CallOn now place pass_place call) (CallAnswer answer) new =
      KeptCalls old now place pass_place call answer new
  Gives old question other new = ⊥
