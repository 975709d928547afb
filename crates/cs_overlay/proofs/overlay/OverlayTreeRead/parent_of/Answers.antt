use Rattle.std.proofs.Common.{nat_eq, ◌∙◌}
use Rattle.std.specs.Arc.{arc_value}
use Rattle.std.specs.HashMap.{get}
use Rattle.cs_overlay.specs.Layers.{parent_at}
use Rattle.cs_overlay.proofs.Views.{parent_all}
use Rattle.cs_overlay.proofs.overlay.OverlayTreeRead.parent_of.Goals as goal

pub returns : goal.returns
returns g c =
    c.parent.ensures ∙ (λ i. parent_at (g.L.TreeRead.tree (c.deref.ensures i)) c.args.number (c.get.ensures.value i)) ∙ parent_all
    (g.L.TreeRead.tree (arc_value c.self.inside.lower)) (get nat_eq c.self.inside.nodes) _ _ c.self.invariant _ c.self.view_is c.args.number
