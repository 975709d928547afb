-- The theorem, of a list of steps: what each of them results in, and how the runs began.
use Rattle.std.specs.Prelude.{◌≡◌, ◌≢◌, ◌↔◌, ◌<◌, ℕ, false, List, [], ◌∷◌, length, slice_get, Some}
use Rattle.cs_apm.specs.States.{crash_state_of}
use Rattle.cs_fids.specs.Entries.{user_of}
use Rattle.cs_journal.specs.Runs.{RunOf}
use Rattle.cs_names.specs.declared.rule_id.RuleId.{RuleId}
use Rattle.cs_permit.specs.Refusals.{IsFirstToFail}
use Rattle.cs_permit.specs.declared.call.Call.{Call}
use Rattle.cs_plan.specs.Plans.{IsAllowedIn}
use Rattle.cs_plan.specs.Scenes.{Scene, micros_of, order_in, set_at}
use Rattle.cs_registry.specs.declared.found.Found.{Found}
use Rattle.cs_registry.specs.Keys.{Key}
use Rattle.cs_session.specs.OfFids.{IsForFid}
use Rattle.cs_session.specs.OwnRules.{own_rules}
use Rattle.cs_session.specs.Questions.{CallOn}
use Rattle.cs_session.specs.Sessions.{SessionState}
use Rattle.cs_session.specs.Steps.{Asks, Done, first_move_by}
use Rattle.cs_session.specs.declared.reply.Reply.TheVariants.{Error}
use Rattle.cs_tree_model.specs.Tree.{Tree}
use Rattle.cs_world.specs.declared.step.ConnectionStep.{ConnectionStep}
use Rattle.cs_world.specs.declared.reply.Reply.{Reply}
use Rattle.cs_world.specs.declared.step.Step.{Step}
use Rattle.cs_world.specs.declared.step.Step.TheVariants.{On}
use Rattle.cs_world.specs.Ample.{nothing_refused, says_out_of_memory}
use Rattle.cs_world.specs.Comes.{ConnectionStepComesTo}
use Rattle.cs_world.specs.ConnectionSteps.{session_step}
use Rattle.cs_world.specs.Consistent.{HasAttached}
use Rattle.cs_world.specs.Lists.{IsStepList}
use Rattle.cs_world.specs.Marks.{WorldMark, refuses_own}
use Rattle.cs_world.specs.Reaching.{run_asked_or_found_by}
use Rattle.cs_world.specs.Steps.{step_of}
use Rattle.cs_world.specs.Worlds.{World, session_at}

-- a call is made for a fid of the connection: on the fid's run, under its pass, on its file, for
-- its user; and a granted attach of that pass named the user
pub record IsForAttachedFid (world : World) (conn now moment place pass : ℕ) (call : Call)
    : Type 0 where
  pub its_fid : IsForFid (session_at world conn) now moment place pass call
  pub attached : HasAttached world.registry place pass (user_of its_fid.entry)

-- what a step of a connection results in; a publish and a reload are the registry's
abbrev pub StepComesTo : World → Step → WorldMark → Reply → World → Type 0
StepComesTo world (On conn now step) mark reply after =
    ConnectionStepComesTo world conn now (session_step step) (refuses_own mark) reply after
StepComesTo world other mark reply after = (reply, after) ≡ step_of world other mark

-- a step, in which the allocation that its mark names fails, has that reply and leads there
pub record StepIsJudged (world : World) (step : Step) (mark : WorldMark) (reply : Reply)
    (after : World) : Type 0 where
  pub comes : StepComesTo world step mark reply after
  -- a call that a connection makes is for one of its fids, and for the user whom a granted attach
  -- of the fid's pass named
  pub of_its_fid : (conn now : ℕ) (own : ConnectionStep) (moment place pass : ℕ) (call : Call)
      → step ≡ On conn now own
      → first_move_by now (session_at world conn) (session_step own) (refuses_own mark)
      ≡ Asks (CallOn moment place pass call)
      → IsForAttachedFid world conn now moment place pass call
  -- a denial that a connection gives by itself is the first of its own rules that fails
  pub own_denial : (conn now : ℕ) (own : ConnectionStep) (rule : RuleId) (left : SessionState)
      → step ≡ On conn now own
      → first_move_by now (session_at world conn) (session_step own) (refuses_own mark)
      ≡ Done (Error rule) left
      → IsFirstToFail (own_rules now (session_at world conn) (session_step own)) rule
  -- the reply says out of memory exactly if an allocation failed
  pub want : (says_out_of_memory reply ≡ false) ↔ (mark ≡ nothing_refused)
  -- no run changes except the one that it asks or finds, and the scene stays
  pub others : (place : ℕ) → run_asked_or_found_by world step mark ≢ Some place
      → place < length world.registry.runs
      → slice_get after.registry.runs place ≡ slice_get world.registry.runs place
  pub scene : after.registry.scene ≡ world.registry.scene

-- steps, each with its mark, have these replies and lead there, one after the other
abbrev pub StepsAreJudged : World → List (Step × WorldMark) → List Reply → World → Type 0
StepsAreJudged world [] [] after = after ≡ world
StepsAreJudged world [] (reply ∷ replies) after = ⊥
StepsAreJudged world (one ∷ rest) [] after = ⊥
StepsAreJudged world (one ∷ rest) (reply ∷ replies) after =
    (next : World) × StepIsJudged world one.0 one.1 reply next
    × StepsAreJudged next rest replies after

-- of a list that was taken: its steps, in order, with marks that `taken` has, one a step
pub record ListIsJudged (world : World) (steps : List Step) (replies : List Reply) (after : World)
    : Type 0 where
  pub taken : IsStepList world steps replies after
  pub judged : StepsAreJudged world taken.marked replies after

-- ---- how runs began

-- a crash may leave the tree: it is the crash state of the number's set, and the set is allowed
pub record IsCrashState (scene : Scene) (number : ℕ) (tree : Tree) : Type 0 where
  pub set : List ℕ
  pub set_is : set_at scene number ≡ Some set
  pub allowed : IsAllowedIn (order_in scene) set
  pub tree_is : tree ≡ crash_state_of scene.trace (micros_of scene) set

-- each run that is there began as the state of its number, which a crash may leave
abbrev pub AllBegan : World → Type 0
AllBegan world = (place : ℕ) (key : Key) (found : Found RunOf)
    → slice_get world.registry.runs place ≡ Some (key, found)
    → IsCrashState world.registry.scene key.number found.held.fresh
