-- What a scene has in addition to its trace.
use Rattle.std.specs.Prelude.{◌≡◌, Bool, List, length}
use Rattle.cs_trace.specs.Traces.{Trace}
use Rattle.cs_micro.specs.Micros.{micros_in}
use Rattle.cs_apm.specs.Orders.{order_of}
use Rattle.cs_plan.specs.Scenes.{IsPlan}
use Rattle.cs_plan.specs.declared.recipe.Recipe.{Recipe}

-- the order is that of the trace's micro-operations, and the plan is the order's
pub record AreParts (trace : Trace) (order : List (List Bool)) (plan : List Recipe) : Type 0 where
  pub ordered : order ≡ order_of (micros_in trace)
  pub long : length order ≡ length (micros_in trace).ops
  pub planned : IsPlan order plan
