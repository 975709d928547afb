-- What a connection asks of its port, and what it is given.
use Rattle.std.specs.Prelude.{ℕ, List, Result}
use Rattle.cs_permit.specs.declared.call.AttachCall.{AttachCall}
use Rattle.cs_permit.specs.declared.call.Call.{Call}
use Rattle.cs_run.specs.declared.answer.Answer.{Answer}
use Rattle.cs_permit.specs.declared.fault.FindFault.{FindFault}
use Rattle.cs_permit.specs.declared.fault.PassFault.{PassFault}

-- to find the run of that name of a state; to attach to the run at a place under a new pass; to
-- make a call on it under the pass at a place
pub data Question : Type 0 where
  FindRun : (state_name run_name : List ℕ) → Question
  AttachTo : (now place : ℕ) (call : AttachCall) → Question
  CallOn : (now place pass : ℕ) (call : Call) → Question

-- the place of the run; the place of the pass and the answer to its attach; the answer to a call
pub data PortAnswer : Type 0 where
  FindAnswer : Result ℕ FindFault → PortAnswer
  AttachAnswer : Result (ℕ × Answer) PassFault → PortAnswer
  CallAnswer : Answer → PortAnswer
