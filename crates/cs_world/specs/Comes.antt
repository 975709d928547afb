-- What a step of a connection results in.
use Rattle.std.specs.Prelude.{◌≡◌, ℕ, ◌<◌, ◌≤◌, Bool, List, Some, Ok, Err}
use Rattle.cs_journal.specs.Runs.{RunOf, with_pass}
use Rattle.cs_names.specs.declared.limits.TheConstants.{CONNECTIONS, RUN_ATTACHES}
use Rattle.cs_names.specs.declared.rule_id.RuleId.TheVariants.{S5}
use Rattle.cs_permit.specs.declared.call.AttachCall.{AttachCall}
use Rattle.cs_permit.specs.declared.call.Call.{Call}
use Rattle.cs_permit.specs.declared.call.Call.TheVariants as calls
use Rattle.cs_permit.specs.declared.fault.PassFault.TheVariants as faults
use Rattle.cs_registry.specs.Runs.{held_at}
use Rattle.cs_run.specs.declared.answer.Answer.{Answer}
use Rattle.cs_session.specs.declared.reply.Reply.{Reply as SessionReply}
use Rattle.cs_session.specs.declared.reply.Reply.TheVariants.{Error}
use Rattle.cs_session.specs.Questions.{FindRun, AttachTo, CallOn, AttachAnswer, CallAnswer}
use Rattle.cs_session.specs.Sessions.{SessionState}
use Rattle.cs_session.specs.Steps.{Step as SessionStep, Done, Asks, first_move_by}
use Rattle.cs_world.specs.declared.reply.Reply.{Reply}
use Rattle.cs_world.specs.declared.reply.Reply.TheVariants.{Connection}
use Rattle.cs_registry.specs.Naming.{key_in}
use Rattle.cs_world.specs.Asking.{found_by, with_run_at}
use Rattle.cs_world.specs.Ends.{CallComesTo}
use Rattle.cs_world.specs.Marks.{RunMark, WorldMark, refuses_own}
use Rattle.cs_world.specs.Steps.{continued_from, on_connection}
use Rattle.cs_world.specs.Worlds.{World, session_at, with_both}

-- what a step of a connection results in; the Bool says whether the memory that the connection
-- itself takes is refused; in a consistent world each step results in one of these
pub data ConnectionStepComesTo (world : World) (conn now : ℕ) (step : SessionStep) (refused : Bool)
    (reply : Reply) (after : World) : Type 0 where
  -- no connection has the number: S5
  NoConnection : CONNECTIONS ≤ conn → reply ≡ Connection (Error S5) → after ≡ world
      → ConnectionStepComesTo world conn now step refused reply after
  -- the connection answers by itself: by its own rules, out of memory that it takes itself, or by a
  -- change of its table; no run changes
  OwnReply : (own_reply : SessionReply) (session : SessionState)
      → first_move_by now (session_at world conn) step refused ≡ Done own_reply session
      → reply ≡ Connection own_reply → after ≡ with_both world conn session world.registry
      → ConnectionStepComesTo world conn now step refused reply after
  -- the registry is asked for a run, and the allocation that the mark names may fail; the
  -- connection continues from its answer, as from those below
  AsksRegistry : (state_name run_name : List ℕ) (mark : RunMark)
      → first_move_by now (session_at world conn) step refused ≡ Asks (FindRun state_name run_name)
      → (reply, after) ≡ continued_from world conn step
      (found_by world.registry mark (key_in state_name run_name))
      → ConnectionStepComesTo world conn now step refused reply after
  -- the run at a place has no memory for a new pass, and is unchanged
  AttachShort : (place : ℕ) (attach : AttachCall) (run : RunOf)
      → first_move_by now (session_at world conn) step refused ≡ Asks (AttachTo now place attach)
      → held_at world.registry.runs place ≡ Some run
      → (reply, after) ≡ continued_from world conn step
      (AttachAnswer (Err faults.Memory), with_run_at world.registry place run)
      → ConnectionStepComesTo world conn now step refused reply after
  -- the attach is judged on the run at a place, under a new pass
  AttachOnRun : (place : ℕ) (attach : AttachCall) (run run' : RunOf) (answer : Answer)
      → first_move_by now (session_at world conn) step refused ≡ Asks (AttachTo now place attach)
      → held_at world.registry.runs place ≡ Some run → run.passes < RUN_ATTACHES
      → CallComesTo (with_pass run) now run.passes (calls.Attach attach) answer run'
      → (reply, after) ≡ continued_from world conn step
      (AttachAnswer (Ok (run.passes, answer)), with_run_at world.registry place run')
      → ConnectionStepComesTo world conn now step refused reply after
  -- the call is judged on the run at a place, under a pass that it gave
  CallOnRun : (place pass : ℕ) (call : Call) (run run' : RunOf) (answer : Answer)
      → first_move_by now (session_at world conn) step refused ≡ Asks (CallOn now place pass call)
      → held_at world.registry.runs place ≡ Some run → pass < run.passes
      → CallComesTo run now pass call answer run'
      → (reply, after) ≡ continued_from world conn step
      (CallAnswer answer, with_run_at world.registry place run')
      → ConnectionStepComesTo world conn now step refused reply after

-- the reply of a step and the world that it leaves are what it results in
abbrev pub ConnectionStepComes : World → ℕ → ℕ → SessionStep → WorldMark → Type 0
ConnectionStepComes world conn now step mark =
    ConnectionStepComesTo world conn now step (refuses_own mark)
    (on_connection world conn now step mark).0 (on_connection world conn now step mark).1
