use Rattle.std.proofs.Common.{nat_eq, ◌∙◌}
use Rattle.std.specs.Arc.{arc_value}
use Rattle.std.specs.HashMap.{get}
use Rattle.cs_overlay.specs.Layers.{found_at}
use Rattle.cs_overlay.proofs.Views.{found_is}
use Rattle.cs_overlay.proofs.overlay.OverlayTreeRead.find_number.Goals as goal

pub returns : goal.returns
returns g c =
    c.find.ensures ∙ (λ i. found_at (g.L.TreeRead.tree (c.deref.ensures i)) c.args.directory c.args.name.now (c.get.ensures.value i)) ∙
    found_is (g.L.TreeRead.tree (arc_value c.self.inside.lower)) (get nat_eq c.self.inside.nodes) _ _ c.self.invariant _ c.self.view_is
    c.args.directory c.args.name.now
