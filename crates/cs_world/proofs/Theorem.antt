-- What each step of a list results in, and how runs began.
use Rattle.std.proofs.Common.{◌≡◌, ◌↔◌, ◌∙◌, ℕ, false, List, [], ◌∷◌, Option, None, Some, refl, sym, ap, subst}
use Rattle.std.specs.Prelude.{option_map, slice_get}
use Rattle.cs_apm.specs.States.{crash_state_of}
use Rattle.cs_fids.specs.Entries.{run_of, user_of}
use Rattle.cs_permit.specs.declared.call.Call.{Call}
use Rattle.cs_plan.specs.Plans.{IsAllowedIn, set_in}
use Rattle.cs_plan.specs.Scenes.{IsPlan, Scene, micros_of, order_in, state_at}
use Rattle.cs_plan.specs.declared.recipe.Recipe.{Recipe}
use Rattle.cs_plan.proofs.Picking.{all_at}
use Rattle.cs_session.proofs.OfFids.{for_fid}
use Rattle.cs_session.specs.OfFids.{IsForFid}
use Rattle.cs_session.proofs.OwnRules.{first_rule}
use Rattle.cs_tree_model.specs.Tree.{Tree}
use Rattle.cs_world.specs.declared.reply.Reply.{Reply}
use Rattle.cs_world.specs.declared.step.Step.{Step}
use Rattle.cs_world.specs.declared.step.Step.TheVariants as s
use Rattle.cs_world.specs.Ample.{nothing_refused, says_out_of_memory}
use Rattle.cs_world.specs.Isolation.{RefusesOnlyWhereTold}
use Rattle.cs_world.specs.Lists.{IsStepList, steps_of}
use Rattle.cs_world.specs.ConnectionSteps.{session_step}
use Rattle.cs_world.specs.Marks.{WorldMark, refuses_own}
use Rattle.cs_world.specs.Consistent.{HasAttached, IsConsistent}
use Rattle.cs_world.specs.Steps.{IsStep, step_of}
use Rattle.cs_world.specs.Theorem.{AllBegan, StepComesTo, IsCrashState, IsForAttachedFid, ListIsJudged, StepIsJudged, StepsAreJudged}
use Rattle.cs_world.specs.Worlds.{World, session_at}
use Rattle.cs_world.proofs.Coming.{comes}
use Rattle.cs_world.proofs.NoWant.{no_want}
use Rattle.cs_world.proofs.Staying.{stays_consistent}
use Rattle.cs_world.proofs.Remarked.{only_told, run_told, same_step, told_mark}
use Rattle.cs_world.proofs.Leaving.{leaves}

module _ (w : World) (ok : IsConsistent w) where
  comes_to : (x : Step) (mark : WorldMark) → StepComesTo w x mark (step_of w x mark).0 (step_of w x mark).1
  comes_to (s.Publish number) mark = refl
  comes_to (s.Reload users) mark = refl
  comes_to (s.On conn now x) mark = comes w ok conn now (session_step x) mark

  wants : (x : Step) (mark : WorldMark) → (says_out_of_memory (step_of w x mark).0 ≡ false → mark ≡ nothing_refused)
      → (says_out_of_memory (step_of w x mark).0 ≡ false) ↔ (mark ≡ nothing_refused)
  wants x mark told = (told, λ is. subst (λ (m : WorldMark). says_out_of_memory (step_of w x m).0 ≡ false) (sym is) (no_want w ok x))

  -- the user of the fid that a call is made for was attached
  for_attached : (conn now moment place pass : ℕ) (call : Call) → IsForFid (session_at w conn) now moment place pass call
      → IsForAttachedFid w conn now moment place pass call
  for_attached conn now moment place pass call its = record {
    its_fid = its;
    attached =
        subst (λ p. HasAttached w.registry p pass (user_of its.entry)) (sym its.run_is)
        (subst (λ p. HasAttached w.registry (run_of its.entry) p (user_of its.entry)) (sym its.pass_is)
        (ok.there.fids conn its.fid its.entry its.there));
  }

  judged : (x : Step) (mark : WorldMark) → (says_out_of_memory (step_of w x mark).0 ≡ false → mark ≡ nothing_refused)
      → StepIsJudged w x mark (step_of w x mark).0 (step_of w x mark).1
  judged x mark told =
      let left = leaves w x mark in
      record {
        comes = comes_to x mark;
        of_its_fid =
            λ conn now own moment place pass call is asks. for_attached conn now moment place pass call
            (for_fid now (session_at w conn) (session_step own) (refuses_own mark) moment place pass call asks);
        own_denial =
            λ conn now own rule left is denies. first_rule now (session_at w conn) left (session_step own) (refuses_own mark) rule denies;
        want = wants x mark told;
        others = left.others;
        scene = left.scene;
      }

all_judged : (w : World) → IsConsistent w → (xs : List (Step × WorldMark)) → RefusesOnlyWhereTold w xs
    → StepsAreJudged w xs (steps_of w xs).0 (steps_of w xs).1
all_judged w ok [] told = refl
all_judged w ok (x ∷ xs) told = (
  (step_of w x.0 x.1).1,
  judged w ok x.0 x.1 told.0,
  all_judged (step_of w x.0 x.1).1 (stays_consistent w ok x.0 x.1) xs told.1,
)

-- of a list that was run
pub by_run : (w : World) → IsConsistent w → (steps : List Step) (replies : List Reply) (w' : World) → IsStepList w steps replies w'
    → ListIsJudged w steps replies w'
by_run w ok steps replies w' run =
    let its = run_told w steps replies w' run in
    record {
      taken = its.0;
      judged = subst (λ (y : List Reply × World). StepsAreJudged w its.0.marked y.0 y.1) (sym its.0.leads)
          (all_judged w ok its.0.marked its.1);
    }

-- and of one step
pub by_step : (w : World) → IsConsistent w → (x : Step) (reply : Reply) (w' : World) → IsStep w x reply w' → (mark : WorldMark)
    × StepIsJudged w x mark reply w'
by_step w ok x reply w' step =
    let mark : WorldMark = told_mark w (x, step.0) in
    let leads : (reply, w') ≡ step_of w x mark = step.1 ∙ sym (same_step w x step.0) in
    (mark, subst (λ (y : Reply × World). StepIsJudged w x mark y.0 y.1) (sym leads) (judged w ok x mark (only_told w x step.0)))

-- ---- how runs began

-- the state of a number is one that a crash may leave
module _ (scene : Scene) (number : ℕ) (tree : Tree) (planned : IsPlan (order_in scene) scene.plan) where
  by_recipe : (o : Option Recipe) → slice_get scene.plan number ≡ o
      → option_map (crash_state_of scene.trace (micros_of scene)) (option_map (set_in (order_in scene)) o) ≡ Some tree
      → IsCrashState scene number tree
  by_recipe None there is = absurd (cc)
  by_recipe (Some recipe) there is = record {
    set = set_in (order_in scene) recipe;
    set_is = ap (option_map (set_in (order_in scene))) there;
    allowed = all_at (λ r. IsAllowedIn (order_in scene) (set_in (order_in scene) r)) scene.plan number recipe there planned.allowed;
    tree_is = sym (cc);
  }

  crash_state : state_at scene number ≡ Some tree → IsCrashState scene number tree
  crash_state is = by_recipe (slice_get scene.plan number) refl is

-- so is what each run of a consistent world began as
pub began : (w : World) → IsConsistent w → IsPlan (order_in w.registry.scene) w.registry.scene.plan → AllBegan w
began w ok planned place key run there =
    crash_state w.registry.scene key.number run.held.fresh planned (ok.there.runs place key run there).fresh
