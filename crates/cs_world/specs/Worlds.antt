-- The states of a scene and the runs of them, and the connections by their numbers.
use Rattle.std.specs.Prelude.{ℕ, List, None, replicate, slice_index_or, slice_set}
use Rattle.cs_names.specs.declared.limits.TheConstants.{CONNECTIONS}
use Rattle.cs_plan.specs.Scenes.{Scene}
use Rattle.cs_registry.specs.Registries.{Registry, empty}
use Rattle.cs_session.specs.Sessions.{SessionState, empty_session}
use Rattle.cs_users.specs.Rows.{Row}
use Rattle.cs_journal.specs.Runs.{RunOf}

pub record World : Type 0 where
  pub registry : Registry RunOf
  pub connections : List SessionState

-- nothing is published, and no connection has a session
abbrev pub new_world : Scene → List Row → World
new_world scene users = record {
  registry = empty scene users;
  connections = replicate CONNECTIONS (empty_session None);
}

-- the connection of that number
abbrev pub session_at : World → ℕ → SessionState
session_at world conn = slice_index_or world.connections conn (empty_session None)

-- the world with this connection under that number, and these runs
abbrev pub with_both : World → ℕ → SessionState → Registry RunOf → World
with_both world conn session registry =
    record { registry = registry; connections = slice_set world.connections conn session }
