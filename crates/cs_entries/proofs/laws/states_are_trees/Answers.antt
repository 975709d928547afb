use Rattle.cs_entries.specs.Laws.States.{state_is_tree, state_leads, state_nested}
use Rattle.cs_entries.proofs.laws.states_are_trees.Goals as goal

pub returns : goal.returns
returns c t ops n few has tree legal numbered small inside closed = (
  state_is_tree t ops n few has tree legal numbered small inside closed,
  state_nested t ops n few has tree legal numbered small inside closed,
  state_leads t ops n few has tree legal numbered small inside closed,
)
