use Rattle.std.proofs.Common.{◌∙◌}
use Rattle.cs_frozen.proofs.Lookups.{count_is, is_tree_fresh}
use Rattle.cs_frozen.proofs.lower.LowerTreeRead.count.Goals as goal

pub returns-clause-value : goal.returns-clause-value
returns-clause-value g c =
    c.len.ensures ∙ c.self.inside.numbers.ok.0 ∙ count_is (g.T.TreeRead.tree c.self.inside.tree) c.self.inside.numbers.items
    c.self.inside.places.items c.self.invariant _ c.self.view_is

pub returns-clause-is_tree : goal.returns-clause-is_tree
returns-clause-is_tree g c =
    is_tree_fresh (g.T.TreeRead.tree c.self.inside.tree) c.self.inside.numbers.items c.self.inside.places.items c.self.invariant _
    c.self.view_is
