-- The scene that inputs give.
use Rattle.std.specs.Prelude.{◌≡◌, ◌++◌, ℕ, List, Ok}
use Rattle.cs_apm.specs.Orders.{order_of}
use Rattle.cs_micro.specs.Micros.{micros_in}
use Rattle.cs_plan.specs.Plans.{plan_of}
use Rattle.cs_plan.specs.Scenes.{Scene}
use Rattle.cs_trace.specs.Traces.{trace_in}
use Rattle.cs_inputs.specs.Picks.{picks_in}
use Rattle.cs_inputs.specs.declared.inputs.Inputs.{Inputs}

-- the scene is that of the trace, with holes if they are asked for, and the picks
pub record IsScene (inputs : Inputs) (scene : Scene) : Type 0 where
  pub picks : List (List ℕ)
  pub traced : trace_in inputs.trace.now ≡ Ok scene.trace
  pub picked : picks_in inputs.picks.now ≡ Ok picks
  pub planned : scene.plan ≡ plan_of (order_of (micros_in scene.trace)) inputs.holes picks

-- the same with more picks, after those of the picks file
pub record IsSceneWith (inputs : Inputs) (more : List (List ℕ)) (scene : Scene) : Type 0 where
  pub picks : List (List ℕ)
  pub traced : trace_in inputs.trace.now ≡ Ok scene.trace
  pub picked : picks_in inputs.picks.now ≡ Ok picks
  pub planned : scene.plan
      ≡ plan_of (order_of (micros_in scene.trace)) inputs.holes (picks ++ more)
