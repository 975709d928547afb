use Rattle.cs_run.proofs.Most.{fullest}
use Rattle.cs_run.proofs.laws.pages_are_fullest.Goals as goal
use Rattle.cs_tree_model.specs.Nexts.{names_after}

pub returns : goal.returns
returns c t directory room last = fullest t directory room last (names_after t directory last)
