use Rattle.std.proofs.Common.{nat_eq, ap, ◌∙◌}
use Rattle.std.specs.Arc.{arc_value}
use Rattle.std.specs.HashMap.{get}
use Rattle.std.specs.Option.{is_some, option_copied, option_map}
use Rattle.cs_tree_model.specs.Laws.Nexts.{entry_is, entry_same, numbers_same}
use Rattle.cs_tree_model.specs.Nexts.{entry_name}
use Rattle.cs_tree_model.specs.Tree.{number_in}
use Rattle.cs_overlay.specs.Layers.{found_at}
use Rattle.cs_overlay.proofs.Views.{found_is}
use Rattle.cs_overlay.proofs.overlay.OverlayTreeRead.entry_after.Goals as goal

pub returns-clause-name : goal.returns-clause-name
returns-clause-name g c =
    entry_is c.args.self.now c.args.directory (option_copied c.args.last) (option_copied c.args.bound)
    (option_map entry_name c.entry_after.result)
    (entry_same (λ y. found_at (g.L.TreeRead.tree c.deref.result.now) c.args.directory y (option_copied c.get-entry.result))
    (number_in c.args.self.now c.args.directory)
    (λ y. ap is_some
    ((λ i. found_at (g.L.TreeRead.tree (c.deref.ensures i)) c.args.directory y (c.get-entry.ensures.value i)) ∙ found_is
    (g.L.TreeRead.tree (arc_value c.self.inside.lower)) (get nat_eq c.self.inside.nodes) _ _ c.self.invariant _ c.self.view_is
    c.args.directory y))
    (option_copied c.args.last) (option_copied c.args.bound) (option_map entry_name c.entry_after.result) c.entry_after.ensures.name)

pub returns-clause-number : goal.returns-clause-number
returns-clause-number g c =
    numbers_same (λ y. found_at (g.L.TreeRead.tree c.deref.result.now) c.args.directory y (option_copied c.get-entry.result))
    (number_in c.args.self.now c.args.directory)
    (λ y. ((λ i. found_at (g.L.TreeRead.tree (c.deref.ensures i)) c.args.directory y (c.get-entry.ensures.value i)) ∙ found_is
    (g.L.TreeRead.tree (arc_value c.self.inside.lower)) (get nat_eq c.self.inside.nodes) _ _ c.self.invariant _ c.self.view_is
    c.args.directory y))
    c.entry_after.result c.entry_after.ensures.number
