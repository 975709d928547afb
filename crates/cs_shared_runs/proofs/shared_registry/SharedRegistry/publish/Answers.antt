use Rattle.cs_shared_runs.proofs.Publishing.{own_unless_stranger}
use Rattle.cs_shared_runs.proofs.shared_registry.SharedRegistry.publish.Goals as goal

pub returns : goal.returns
returns g c only = rw (only _ c.publish.ensures.own) at (own_unless_stranger _ _ c.args.state c.publish.result c.publish.ensures.publishes)
