use Rattle.std.proofs.Common.{nat_eq, sym, ap, ◌∙◌}
use Rattle.std.specs.Arc.{arc_value}
use Rattle.std.specs.HashMap.{get}
use Rattle.cs_tree_model.specs.Tree.{name_numbered}
use Rattle.cs_overlay.specs.Layers.{own_name_at}
use Rattle.cs_overlay.proofs.Views.{name_all, name_root}
use Rattle.cs_overlay.proofs.overlay.OverlayTreeRead.name_of.Goals as goal

pub returns-then-number-eq0 : goal.returns-then-number-eq0
returns-then-number-eq0 g c =
    name_root (g.L.TreeRead.tree (arc_value c.self.inside.lower)) (get nat_eq c.self.inside.nodes) _ _ c.self.invariant _ c.self.view_is ∙
    ap (name_numbered c.args.self.now) (sym c.if-number-eq0.true)

pub returns : goal.returns
returns g c =
    c.name.ensures ∙ (λ i. own_name_at (g.L.TreeRead.tree (c.deref.ensures i)) c.args.number (c.get.ensures.value i)) ∙ name_all
    (g.L.TreeRead.tree (arc_value c.self.inside.lower)) (get nat_eq c.self.inside.nodes) _ _ c.self.invariant _ c.self.view_is c.args.number
    c.if-number-eq0.false
