use Rattle.cs_world.proofs.Growing.{can_grow}
use Rattle.cs_world.proofs.Staying.{by_new}
use Rattle.cs_world.proofs.world.World.new.Goals as goal

pub new-requires-clause-admitted : goal.new-requires-clause-admitted
new-requires-clause-admitted c = λ state is its. can_grow state is

pub returns-clause-consistent : goal.returns-clause-consistent
returns-clause-consistent c =
    by_new _ _ c.in_ok-states.states c.in_ok-empty_sessions.field-0.items c.in_ok-states.ensures c.in_ok-empty_sessions.ensures
