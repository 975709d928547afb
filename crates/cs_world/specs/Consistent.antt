-- A consistent world: what holds in a new world, and each step keeps.
use Rattle.std.specs.Prelude.{◌≡◌, ℕ, ◌+◌, ◌<◌, ◌≤◌, ◌==◌, Bool, true, false, filter, List, length}
use Rattle.std.specs.Prelude.{IsSome, IsSomeAnd, Some, slice_get}
use Rattle.std.specs.Option.{option_map_or}
use Rattle.cs_fids.specs.declared.entry.FidEntry.{FidEntry}
use Rattle.cs_fids.specs.declared.entry.FidEntry.TheVariants as entry
use Rattle.cs_fids.specs.declared.fid.Opened.{Opened}
use Rattle.cs_fids.specs.FidOf.{FidOf}
use Rattle.cs_fids.specs.Entries.{pass_of, run_of, user_of}
use Rattle.cs_permit.specs.declared.call.Call.TheVariants.{Attach}
use Rattle.cs_run.specs.Opens.{open_numbered}
use Rattle.cs_run.specs.Outcomes.{closed_open_number}
use Rattle.cs_run.specs.declared.answer.Outcome.TheVariants.{Granted}
use Rattle.cs_journal.specs.Calls.{is_full}
use Rattle.cs_journal.specs.Journals.{HasRoom, IsLegal}
use Rattle.cs_journal.specs.Runs.{RunOf, first_state, state_of}
use Rattle.cs_names.specs.declared.limits.TheConstants.{CONNECTIONS, RUN_ATTACHES}
use Rattle.cs_plan.specs.Scenes.{state_at}
use Rattle.cs_registry.specs.declared.found.Found.{Found}
use Rattle.cs_registry.specs.Keys.{Key}
use Rattle.cs_registry.specs.Registries.{Registry, is_published}
use Rattle.cs_registry.specs.Runs.{held_at}
use Rattle.cs_session.specs.Questions.{Question, FindRun, AttachTo, CallOn}
use Rattle.cs_session.specs.Sessions.{Awaited, SessionState, entry_at}
use Rattle.cs_session.specs.Steps.{Step as SessionStep, Asks, first_move_by}
use Rattle.cs_world.specs.Ends.{entry_by}
use Rattle.cs_world.specs.Worlds.{World, session_at}

-- the run at a place awaits the connection's attach
abbrev pub awaits : ℕ → SessionState → Bool
awaits place session = option_map_or (λ awaited. awaited.run == place) session.awaited false

-- how many connections found it and still await their attach
abbrev pub count_awaiting : ℕ → List SessionState → ℕ
count_awaiting place connections = length (filter (awaits place) connections)

-- an entry of the run's journal, under that pass, is a granted attach of that user
pub record IsAttachedAs (run : RunOf) (pass : ℕ) (user : List ℕ) : Type 0 where
  pub place : ℕ
  pub moment : ℕ
  pub entry : slice_get run.journal place
      ≡ Some (entry_by moment pass (Attach (record { user = user })) Granted)

-- a run is at the place, gave a pass of that number, and attached that user under it
abbrev pub HasAttached : Registry RunOf → ℕ → ℕ → List ℕ → Type 0
HasAttached registry place pass user =
    IsSomeAnd (held_at registry.runs place)
    (λ run. (pass < run.passes) × IsAttachedAs run pass user)

-- a run with its key: no more passes than finds, counting those that are still to come, and no more
-- finds than a run has in its life; room in its journal, which is legal; and it began as the state
-- of its number, which is published
pub record IsConsistentRun (world : World) (place : ℕ) (key : Key) (found : Found RunOf)
    : Type 0 where
  pub attaches : found.held.passes + count_awaiting place world.connections ≤ found.finds
  pub few : found.finds ≤ RUN_ATTACHES
  pub room : HasRoom (state_of found.held)
  pub legal : IsLegal (first_state found.held) found.held.journal
  pub published : is_published world.registry key.number ≡ true
  pub fresh : state_at world.registry.scene key.number ≡ Some found.held.fresh

-- for each number of the plan the registry keeps whether its state is published; each run is
-- consistent; a run that awaits an attach is there; and each fid has a run that is there, a pass
-- that it gave, and the user whom a granted attach of that pass named
pub record HasConsistentRuns (world : World) : Type 0 where
  pub all : length world.connections ≡ CONNECTIONS
  pub states : length world.registry.published ≡ length world.registry.scene.plan
  pub runs : (place : ℕ) (key : Key) (found : Found RunOf)
      → slice_get world.registry.runs place ≡ Some (key, found)
      → IsConsistentRun world place key found
  pub awaited : (conn : ℕ) (awaited : Awaited) → (session_at world conn).awaited ≡ Some awaited
      → IsSome (held_at world.registry.runs awaited.run)
  pub fids : (conn fid : ℕ) (one : FidEntry) → entry_at (session_at world conn) fid ≡ Some one
      → HasAttached world.registry (run_of one) (pass_of one) (user_of one)

-- the run at a place has an open of that number, under that pass
abbrev pub HasOpen : Registry RunOf → ℕ → ℕ → ℕ → Type 0
HasOpen registry place pass number =
    IsSomeAnd (held_at registry.runs place)
    (λ run. IsSome (open_numbered number pass (state_of run).opens))

-- the open of each open fid is in its run, and no other fid has it
pub record HaveTheirOpens (world : World) : Type 0 where
  pub stand : (conn fid : ℕ) (one : FidOf Opened)
      → entry_at (session_at world conn) fid ≡ Some (entry.Opened one)
      → HasOpen world.registry one.run one.pass one.state.open_number
  pub own : (conn fid other_conn other_fid : ℕ) (one other : FidOf Opened)
      → entry_at (session_at world conn) fid ≡ Some (entry.Opened one)
      → entry_at (session_at world other_conn) other_fid ≡ Some (entry.Opened other)
      → one.run ≡ other.run → one.state.open_number ≡ other.state.open_number
      → (conn ≡ other_conn) × (fid ≡ other_fid)

pub record IsConsistent (world : World) : Type 0 where
  pub there : HasConsistentRuns world
  pub opens : HaveTheirOpens world

-- what a question needs is there: an attach has a run that can give a pass, and a call a run that
-- gave the pass; and a close, and a remove of an open fid, has room for its entry
abbrev pub CanBeAsked : Registry RunOf → Question → Type 0
CanBeAsked registry (FindRun state_name run_name) = Unit {0}
CanBeAsked registry (AttachTo now place call) =
    IsSomeAnd (held_at registry.runs place) (λ run. run.passes < RUN_ATTACHES)
CanBeAsked registry (CallOn now place pass call) =
    IsSomeAnd (held_at registry.runs place) (λ run. (pass < run.passes)
    × (IsSome (closed_open_number call) → is_full (state_of run) pass call ≡ false))

-- whatever a connection asks in its next step, what the question needs is there
abbrev pub AsksWhatCanBeAsked : World → ℕ → Type 0
AsksWhatCanBeAsked world conn =
    (now : ℕ) (step : SessionStep) (refused : Bool) (question : Question)
    → first_move_by now (session_at world conn) step refused ≡ Asks question
    → CanBeAsked world.registry question
