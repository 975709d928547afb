use Rattle.cs_apm.specs.Laws.Starts.{crash_states_are_trees}
use Rattle.cs_apm.proofs.laws.states_are_trees.Goals as goal

pub returns : goal.returns
returns c =
    crash_states_are_trees c.args.trace.now c.args.micros.now c.requires.version c.operations.ensures.tree c.requires.legal
