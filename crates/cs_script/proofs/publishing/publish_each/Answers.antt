use Rattle.std.proofs.Common.{ap, add-one, ◌∙◌}
use Rattle.cs_registry.specs.Publishing.{with_published}
use Rattle.cs_world.specs.Worlds.{World}
use Rattle.cs_script.proofs.Serving.{one_more}
use Rattle.cs_script.proofs.publishing.publish_each.Goals as goal

pub loop-number-preserved : goal.loop-number-preserved
loop-number-preserved c =
    rw add-one (one_more _ _ _ (rw c.in-Published.is at c.step.ensures.steps)
    ∙ ap (λ (w : World). record w { registry = with_published w.registry c.loop-number.number }) c.loop-number.invariant)
