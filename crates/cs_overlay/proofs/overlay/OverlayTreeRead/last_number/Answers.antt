use Rattle.std.proofs.Common.{nat_eq}
use Rattle.std.specs.Arc.{arc_value}
use Rattle.std.specs.HashMap.{get}
use Rattle.cs_overlay.proofs.Views.{next_is}
use Rattle.cs_overlay.proofs.overlay.OverlayTreeRead.last_number.Goals as goal

pub returns : goal.returns
returns g c =
    next_is (g.L.TreeRead.tree (arc_value c.self.inside.lower)) (get nat_eq c.self.inside.nodes) _ _ c.self.invariant _ c.self.view_is
