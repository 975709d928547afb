use Rattle.cs_shared_runs.proofs.shared_registry.SharedRegistry.publish_own.Goals as goal

pub publish_own-requires : goal.publish_own-requires
publish_own-requires g c = rw c.requires.own c.requires.only
