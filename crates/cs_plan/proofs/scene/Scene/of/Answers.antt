use Rattle.std.proofs.Common.{ap, length, ◌∙◌, sym, subst}
use Rattle.cs_micro.specs.Micros.{micros_in}
use Rattle.cs_apm.specs.Orders.{order_of}
use Rattle.cs_plan.specs.Parts.{AreParts}
use Rattle.cs_plan.proofs.Orders.{length_order}
use Rattle.cs_plan.proofs.scene.Scene.of.Goals as goal

pub invariant_of-result : goal.invariant_of-result
invariant_of-result c =
    let ordered = c.in_ok-order.ensures ∙ ap order_of c.in_ok-micros.ensures.value in
    subst (λ t. AreParts t c.in_ok-order.order c.in_ok-plan.plan) (sym c.in_ok-atlas.ensures) (record {
      ordered = ordered;
      long = ap length ordered ∙ length_order (micros_in c.args.trace);
      planned = record {
        holes = c.args.holes;
        picks = c.args.picks.items;
        listed = c.in_ok-plan.ensures.value;
        few = c.in_ok-plan.ensures.few;
        within = c.in_ok-plan.ensures.within;
        allowed = c.in_ok-plan.ensures.allowed;
      };
    })
