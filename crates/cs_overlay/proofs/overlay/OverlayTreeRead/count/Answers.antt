use Rattle.std.proofs.Common.{nat_eq}
use Rattle.std.specs.Arc.{arc_value}
use Rattle.std.specs.HashMap.{get}
use Rattle.cs_overlay.proofs.Views.{count_is, is_tree_in}
use Rattle.cs_overlay.proofs.overlay.OverlayTreeRead.count.Goals as goal

pub returns-clause-value : goal.returns-clause-value
returns-clause-value g c =
    count_is (g.L.TreeRead.tree (arc_value c.self.inside.lower)) (get nat_eq c.self.inside.nodes) _ _ c.self.invariant _ c.self.view_is

pub returns-clause-is_tree : goal.returns-clause-is_tree
returns-clause-is_tree g c =
    is_tree_in (g.L.TreeRead.tree (arc_value c.self.inside.lower)) (get nat_eq c.self.inside.nodes) _ _ c.self.invariant _ c.self.view_is
