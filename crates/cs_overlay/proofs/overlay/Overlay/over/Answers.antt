use Rattle.std.proofs.Common.{nat_eq, sym, ap, ◌∙◌, subst}
use Rattle.std.specs.Arc.{arc_value}
use Rattle.std.specs.HashMap.{get}
use Rattle.std.specs.FinMap.{len}
use Rattle.cs_tree_model.specs.Tree.{IsTree}
use Rattle.cs_overlay.proofs.Ranges.{none_of_none}
use Rattle.cs_overlay.proofs.Views.{over_none, tree_none}
use Rattle.cs_overlay.proofs.overlay.Overlay.over.Goals as goal

pub invariant_of-result : goal.invariant_of-result
invariant_of-result g c =
    over_none (g.L.TreeRead.tree (arc_value c.args.lower))
    (subst IsTree (ap g.L.TreeRead.tree c.deref-2.ensures) c.count-count.ensures.is_tree)
    c.count-count.result (c.count-count.ensures.value ∙ ap (λ v. len (g.L.TreeRead.tree v).files) c.deref-2.ensures)
    _ (ap (λ v. (g.L.TreeRead.tree v).next) (sym c.deref.ensures) ∙ c.last_number-greatest.ensures)
    (get nat_eq c.new.result) (λ n. none_of_none (nat_eq n) c.new.result.entries c.new.ensures.len)

pub returns : goal.returns
returns g c =
    tree_none (g.L.TreeRead.tree (arc_value c.args.lower))
    (subst IsTree (ap g.L.TreeRead.tree c.deref-2.ensures) c.count-count.ensures.is_tree)
    c.count-count.result (c.count-count.ensures.value ∙ ap (λ v. len (g.L.TreeRead.tree v).files) c.deref-2.ensures)
    _ (ap (λ v. (g.L.TreeRead.tree v).next) (sym c.deref.ensures) ∙ c.last_number-greatest.ensures)
    (get nat_eq c.new.result) (λ n. none_of_none (nat_eq n) c.new.result.entries c.new.ensures.len)
