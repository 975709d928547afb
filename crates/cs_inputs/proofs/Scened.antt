-- The scene of inputs.
use Rattle.std.proofs.Common.{◌≡◌, ℕ, List, sym, ap, ◌∙◌}
use Rattle.std.specs.Prelude.{Ok}
use Rattle.cs_apm.specs.Orders.{order_of}
use Rattle.cs_micro.specs.Micros.{micros_in}
use Rattle.cs_inputs.specs.Picks.{picks_in}
use Rattle.cs_plan.specs.Plans.{plan_of}
use Rattle.cs_plan.specs.Scenes.{Scene}
use Rattle.cs_trace.specs.Traces.{Trace, trace_in}
use Rattle.cs_inputs.specs.Scenes.{IsScene}
use Rattle.cs_inputs.specs.declared.inputs.Inputs.{Inputs}

pub scene_of_parts : (inputs : Inputs) (trace : Trace) (picks : List (List ℕ)) (scene : Scene)
    → trace_in inputs.trace.now ≡ Ok trace → picks_in inputs.picks.now ≡ Ok picks
    → scene ≡ record { trace = trace; plan = plan_of (order_of (micros_in trace)) inputs.holes picks } → IsScene inputs scene
scene_of_parts inputs trace picks scene traced picked e = record {
  picks = picks;
  traced = traced ∙ ap (λ (s : Scene). Ok s.trace) (sym e);
  picked = picked;
  planned = ap (λ (s : Scene). s.plan) e ∙ ap (λ (s : Scene). plan_of (order_of (micros_in s.trace)) inputs.holes picks) (sym e);
}
