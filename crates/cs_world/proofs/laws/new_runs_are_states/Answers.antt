use Rattle.cs_world.proofs.Reached.{run_is_made}
use Rattle.cs_world.proofs.laws.new_runs_are_states.Goals as goal

pub returns : goal.returns
returns c = run_is_made
