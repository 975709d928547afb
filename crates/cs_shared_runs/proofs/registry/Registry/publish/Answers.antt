use Rattle.cs_shared_runs.proofs.Scenes.{published_of_server}
use Rattle.cs_shared_runs.proofs.registry.Registry.publish.Goals as goal

pub invariant_of-self : goal.invariant_of-self
invariant_of-self g c =
    published_of_server g.S.ServerBrand.is_scene c.self.inside.states c.publish.new.self c.self.invariant c.args.state c.publish.result
    c.publish.ensures
