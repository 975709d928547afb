use Rattle.std.proofs.Common.{nat_eq, ◌∙◌}
use Rattle.std.specs.Arc.{arc_value}
use Rattle.std.specs.HashMap.{get}
use Rattle.cs_overlay.specs.Layers.{metadata_at}
use Rattle.cs_overlay.proofs.Views.{is_tree_in, metadata_all}
use Rattle.cs_overlay.proofs.overlay.OverlayTreeRead.record.Goals as goal

pub returns-clause-value : goal.returns-clause-value
returns-clause-value g c =
    c.record.ensures ∙ (λ i. metadata_at (g.L.TreeRead.tree (c.deref.ensures i)) c.args.number (c.get.ensures.value i)) ∙ metadata_all
    (g.L.TreeRead.tree (arc_value c.self.inside.lower)) (get nat_eq c.self.inside.nodes) _ _ c.self.invariant _ c.self.view_is c.args.number

pub returns-clause-is_tree : goal.returns-clause-is_tree
returns-clause-is_tree g c =
    is_tree_in (g.L.TreeRead.tree (arc_value c.self.inside.lower)) (get nat_eq c.self.inside.nodes) _ _ c.self.invariant _ c.self.view_is
