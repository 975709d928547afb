use Rattle.std.proofs.Common.{length, ap, ◌∙◌}
use Rattle.cs_script.proofs.Serving.{served}
use Rattle.cs_script.proofs.publishing.world_of.Goals as goal

pub returns-clause-world : goal.returns-clause-world
returns-clause-world c =
    served c.args.scene _ c.args.users _ c.len-count.result c.in-Ok.world c.publish_each.new.world c.in_ok-publish_each.ensures.published
    c.in-Ok.ensures.new c.in-Ok-Ok.ensures.ok c.in-Ok-Ok.ensures'.ok
    (c.len-count.ensures.value ∙ ap length c.plan.ensures.value)
