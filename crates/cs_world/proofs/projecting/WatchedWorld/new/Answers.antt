use Rattle.cs_world.proofs.Growing.{can_grow}
use Rattle.cs_world.proofs.projecting.WatchedWorld.new.Goals as goal

pub new-requires-clause-admitted : goal.new-requires-clause-admitted
new-requires-clause-admitted c = λ state is its. can_grow state is
