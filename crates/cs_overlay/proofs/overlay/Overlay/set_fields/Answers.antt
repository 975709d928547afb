use Rattle.std.proofs.Common.{nat_eq, IsSome, sym, ◌∙◌, subst}
use Rattle.std.proofs.lemmas.Result.{err_from_is_err_and}
use Rattle.std.specs.Arc.{arc_value}
use Rattle.std.specs.HashMap.{get}
use Rattle.cs_tree_model.specs.Laws.Stores.{directory_stays, number_stays}
use Rattle.cs_tree_model.specs.Stores.{changed_record}
use Rattle.cs_overlay.specs.Layers.{layers}
use Rattle.cs_overlay.proofs.Holding.{file_if_in, over_same, over_step, stamps_in, there_in, tree_same, tree_step, unseen}
use Rattle.cs_overlay.proofs.Renaming.{unnamed}
use Rattle.cs_overlay.proofs.Unseen.{same_step}
use Rattle.cs_overlay.proofs.overlay.Overlay.set_fields.Goals as goal

pub copy_up-requires : goal.copy_up-requires
copy_up-requires g c =
    subst (λ v. IsSome (layers (g.L.TreeRead.tree v) (get nat_eq c.self.inside.nodes) c.args.number)) (sym c.deref.ensures)
    (there_in (g.L.TreeRead.tree (arc_value c.self.inside.lower)) (get nat_eq c.self.inside.nodes) _ _ c.self.invariant _ c.self.view_is
    c.args.number c.requires.there)

pub invariant_of-self : goal.invariant_of-self
invariant_of-self g c =
    (unseen g.L.TreeRead.tree c.deref.ensures c.copy_up.ensures.same c.self.invariant c.self.view_is).held

pub change_entry-requires-clause-vers : goal.change_entry-requires-clause-vers
change_entry-requires-clause-vers g c =
    let one = get nat_eq c.copy_up.new.nodes in
    let after = unseen g.L.TreeRead.tree c.deref.ensures c.copy_up.ensures.same c.self.invariant c.self.view_is in
    stamps_in (g.L.TreeRead.tree (arc_value c.self.inside.lower)) one _ _ after.held _ after.view c.args.number c.requires.vers

pub invariant_of-self-in_err-change_entry : goal.invariant_of-self-in_err-change_entry
invariant_of-self-in_err-change_entry g c =
    let one = get nat_eq c.copy_up.new.nodes in
    let after = unseen g.L.TreeRead.tree c.deref.ensures c.copy_up.ensures.same c.self.invariant c.self.view_is in
    over_same (g.L.TreeRead.tree (arc_value c.self.inside.lower)) one (get nat_eq c.change_entry.new.nodes)
    (same_step (g.L.TreeRead.tree (arc_value c.self.inside.lower)) c.args.number one (get nat_eq c.change_entry.new.nodes)
    (c.in_err-change_entry.ensures.err (g.L.TreeRead.tree (arc_value c.self.inside.lower)) after.held.nodes)) _ _ after.held

pub returns-in_err-change_entry-clause-err : goal.returns-in_err-change_entry-clause-err
returns-in_err-change_entry-clause-err g c =
    let p = err_from_is_err_and c.from_residual-in_err-change_entry.result c.from_residual-in_err-change_entry.ensures.1 in
    let one = get nat_eq c.copy_up.new.nodes in
    let after = unseen g.L.TreeRead.tree c.deref.ensures c.copy_up.ensures.same c.self.invariant c.self.view_is in
    rw p.1 (tree_same (g.L.TreeRead.tree (arc_value c.self.inside.lower)) one (get nat_eq c.change_entry.new.nodes)
    (same_step (g.L.TreeRead.tree (arc_value c.self.inside.lower)) c.args.number one (get nat_eq c.change_entry.new.nodes)
    (c.in_err-change_entry.ensures.err (g.L.TreeRead.tree (arc_value c.self.inside.lower)) after.held.nodes)) _ _ after.view)

pub invariant_of-self-2 : goal.invariant_of-self-2
invariant_of-self-2 g c =
    let one = get nat_eq c.copy_up.new.nodes in
    let after = unseen g.L.TreeRead.tree c.deref.ensures c.copy_up.ensures.same c.self.invariant c.self.view_is in
    over_step (g.L.TreeRead.tree (arc_value c.self.inside.lower)) one _ _ after.held _ after.view c.args.number
    (changed_record c.args.fields.now c.args.stamp) (get nat_eq c.change_entry.new.nodes)
    (c.in_ok-change_entry.ensures.ok (g.L.TreeRead.tree (arc_value c.self.inside.lower)) after.held.nodes
    (file_if_in (g.L.TreeRead.tree (arc_value c.self.inside.lower)) one _ _ after.held _ after.view c.args.fields.now.length c.args.number
    c.requires.file))
    (number_stays c.args.fields.now.length c.args.stamp) (directory_stays c.args.fields.now.length c.args.stamp)

pub returns-clause-ok : goal.returns-clause-ok
returns-clause-ok g c =
    let one = get nat_eq c.copy_up.new.nodes in
    let after = unseen g.L.TreeRead.tree c.deref.ensures c.copy_up.ensures.same c.self.invariant c.self.view_is in
    tree_step (g.L.TreeRead.tree (arc_value c.self.inside.lower)) one _ _ after.held _ after.view c.args.number
    (changed_record c.args.fields.now c.args.stamp) (get nat_eq c.change_entry.new.nodes)
    (c.in_ok-change_entry.ensures.ok (g.L.TreeRead.tree (arc_value c.self.inside.lower)) after.held.nodes
    (file_if_in (g.L.TreeRead.tree (arc_value c.self.inside.lower)) one _ _ after.held _ after.view c.args.fields.now.length c.args.number
    c.requires.file))
    (number_stays c.args.fields.now.length c.args.stamp) (directory_stays c.args.fields.now.length c.args.stamp)
    ∙ unnamed c.args.number c.args.fields.now c.args.stamp c.args.self.now c.requires.unnamed
