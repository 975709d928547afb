use Rattle.std.proofs.Common.{sym}
use Rattle.cs_registry.proofs.Keeping.{state_within}
use Rattle.cs_shared_runs.proofs.Publishing.{own_unless_stranger}
use Rattle.cs_shared_runs.proofs.Scenes.{published_of_server}
use Rattle.cs_shared_runs.proofs.registry.Registry.publish_own.Goals as goal

pub publish_own-requires : goal.publish_own-requires
publish_own-requires g c = record { own = sym (c.requires _ c.self.invariant.scene) }

pub invariant_of-self : goal.invariant_of-self
invariant_of-self g c =
    published_of_server g.S.ServerBrand.is_scene c.self.inside.states c.publish_own.new.self c.self.invariant c.args.state
    c.publish_own.result c.publish_own.ensures

pub returns-clause-own : goal.returns-clause-own
returns-clause-own g c =
    let own = sym (c.requires _ c.self.invariant.scene) in
    let within =
    rw own at (state_within c.args.state.scene c.args.state.number c.args.state.tree c.number.ensures.published.state) in
    (own_unless_stranger c.self.inside.states c.publish_own.new.self c.args.state c.publish_own.result c.publish_own.ensures).0
    (within, own)
