use Rattle.cs_list.specs.Listings.{asks_family}
use Rattle.cs_list.proofs.Added.{listed_with}
use Rattle.cs_list.proofs.additions.scene_with_sets.Goals as goal

pub returns-clause-listed : goal.returns-clause-listed
returns-clause-listed c = listed_with c.args.inputs.now (asks_family c.args.options) _ _ c.requires c.scene_with.ensures.scene
