use Rattle.std.proofs.Common.{nat_eq, IsSome, refl, sym, ap, subst}
use Rattle.std.proofs.lemmas.Result.{err_from_is_err_and}
use Rattle.std.specs.Arc.{arc_value}
use Rattle.std.specs.HashMap.{get}
use Rattle.std.specs.Option.{option_map}
use Rattle.cs_tree_model.specs.Effects.{bytes_after_write}
use Rattle.cs_tree_model.specs.Stores.{stamped_write}
use Rattle.cs_overlay.specs.Layers.{SameLayers, StepsAt, layers}
use Rattle.cs_overlay.proofs.Holding.{file_in, over_same, over_step, stamps_in, tree_same, tree_step}
use Rattle.cs_overlay.proofs.Unseen.{same_step}
use Rattle.cs_overlay.proofs.overlay.OverlayTreeStore.write_at.Goals as goal

pub copy_up-requires : goal.copy_up-requires
copy_up-requires g c =
    subst (λ v. IsSome (layers (g.L.TreeRead.tree v) (get nat_eq c.self.inside.nodes) c.args.number)) (sym c.deref.ensures)
    (file_in (g.L.TreeRead.tree (arc_value c.self.inside.lower)) (get nat_eq c.self.inside.nodes) _ _ c.self.invariant _ c.self.view_is
    c.args.number c.requires.file)

pub invariant_of-self : goal.invariant_of-self
invariant_of-self g c =
    over_same (g.L.TreeRead.tree (arc_value c.self.inside.lower)) (get nat_eq c.self.inside.nodes) (get nat_eq c.copy_up.new.nodes)
    (subst (λ v. SameLayers (g.L.TreeRead.tree v) (get nat_eq c.self.inside.nodes) (get nat_eq c.copy_up.new.nodes)) c.deref.ensures
    c.copy_up.ensures.same) _ _ c.self.invariant

pub write_to_entry-requires-clause-vers : goal.write_to_entry-requires-clause-vers
write_to_entry-requires-clause-vers g c =
    let same =
    subst (λ v. SameLayers (g.L.TreeRead.tree v) (get nat_eq c.self.inside.nodes) (get nat_eq c.copy_up.new.nodes)) c.deref.ensures
    c.copy_up.ensures.same in
    stamps_in (g.L.TreeRead.tree (arc_value c.self.inside.lower)) (get nat_eq c.copy_up.new.nodes) _ _
    (over_same (g.L.TreeRead.tree (arc_value c.self.inside.lower)) (get nat_eq c.self.inside.nodes) (get nat_eq c.copy_up.new.nodes)
    same _ _ c.self.invariant) _
    (tree_same (g.L.TreeRead.tree (arc_value c.self.inside.lower)) (get nat_eq c.self.inside.nodes) (get nat_eq c.copy_up.new.nodes)
    same _ _ c.self.view_is) c.args.number c.requires.vers

pub invariant_of-self-in_err-write_to_entry : goal.invariant_of-self-in_err-write_to_entry
invariant_of-self-in_err-write_to_entry g c =
    let one = get nat_eq c.copy_up.new.nodes in
    let same = subst (λ v. SameLayers (g.L.TreeRead.tree v) (get nat_eq c.self.inside.nodes) one) c.deref.ensures c.copy_up.ensures.same in
    over_same (g.L.TreeRead.tree (arc_value c.self.inside.lower)) one (get nat_eq c.write_to_entry.new.nodes)
    (same_step (g.L.TreeRead.tree (arc_value c.self.inside.lower)) c.args.number one (get nat_eq c.write_to_entry.new.nodes)
    (subst (λ v. StepsAt (g.L.TreeRead.tree v) c.args.number (λ r. r) one (get nat_eq c.write_to_entry.new.nodes)) c.deref-2.ensures
    c.in_err-write_to_entry.ensures.err))
    _ _ (over_same (g.L.TreeRead.tree (arc_value c.self.inside.lower)) (get nat_eq c.self.inside.nodes) one same _ _ c.self.invariant)

pub returns-in_err-write_to_entry-clause-err : goal.returns-in_err-write_to_entry-clause-err
returns-in_err-write_to_entry-clause-err g c =
    let p = err_from_is_err_and c.from_residual-in_err-write_to_entry.result c.from_residual-in_err-write_to_entry.ensures.1 in
    let one = get nat_eq c.copy_up.new.nodes in
    let same = subst (λ v. SameLayers (g.L.TreeRead.tree v) (get nat_eq c.self.inside.nodes) one) c.deref.ensures c.copy_up.ensures.same in
    rw p.1 (tree_same (g.L.TreeRead.tree (arc_value c.self.inside.lower)) one (get nat_eq c.write_to_entry.new.nodes)
    (same_step (g.L.TreeRead.tree (arc_value c.self.inside.lower)) c.args.number one (get nat_eq c.write_to_entry.new.nodes)
    (subst (λ v. StepsAt (g.L.TreeRead.tree v) c.args.number (λ r. r) one (get nat_eq c.write_to_entry.new.nodes)) c.deref-2.ensures
    c.in_err-write_to_entry.ensures.err))
    _ _ (tree_same (g.L.TreeRead.tree (arc_value c.self.inside.lower)) (get nat_eq c.self.inside.nodes) one same _ _ c.self.view_is))

pub invariant_of-self-2 : goal.invariant_of-self-2
invariant_of-self-2 g c =
    let one = get nat_eq c.copy_up.new.nodes in
    let same = subst (λ v. SameLayers (g.L.TreeRead.tree v) (get nat_eq c.self.inside.nodes) one) c.deref.ensures c.copy_up.ensures.same in
    over_step (g.L.TreeRead.tree (arc_value c.self.inside.lower)) one _ _
    (over_same (g.L.TreeRead.tree (arc_value c.self.inside.lower)) (get nat_eq c.self.inside.nodes) one same _ _ c.self.invariant) _
    (tree_same (g.L.TreeRead.tree (arc_value c.self.inside.lower)) (get nat_eq c.self.inside.nodes) one same _ _ c.self.view_is)
    c.args.number (stamped_write c.args.offset c.args.bytes.now c.args.stamp) (get nat_eq c.write_to_entry.new.nodes)
    (subst (λ v. StepsAt (g.L.TreeRead.tree v) c.args.number (stamped_write c.args.offset c.args.bytes.now c.args.stamp) one
    (get nat_eq c.write_to_entry.new.nodes)) c.deref-2.ensures c.in_ok-write_to_entry.ensures.ok)
    (λ r. refl) (λ r. ap (option_map (bytes_after_write c.args.offset c.args.bytes.now)))

pub returns-clause-ok : goal.returns-clause-ok
returns-clause-ok g c =
    let one = get nat_eq c.copy_up.new.nodes in
    let same = subst (λ v. SameLayers (g.L.TreeRead.tree v) (get nat_eq c.self.inside.nodes) one) c.deref.ensures c.copy_up.ensures.same in
    tree_step (g.L.TreeRead.tree (arc_value c.self.inside.lower)) one _ _
    (over_same (g.L.TreeRead.tree (arc_value c.self.inside.lower)) (get nat_eq c.self.inside.nodes) one same _ _ c.self.invariant) _
    (tree_same (g.L.TreeRead.tree (arc_value c.self.inside.lower)) (get nat_eq c.self.inside.nodes) one same _ _ c.self.view_is)
    c.args.number (stamped_write c.args.offset c.args.bytes.now c.args.stamp) (get nat_eq c.write_to_entry.new.nodes)
    (subst (λ v. StepsAt (g.L.TreeRead.tree v) c.args.number (stamped_write c.args.offset c.args.bytes.now c.args.stamp) one
    (get nat_eq c.write_to_entry.new.nodes)) c.deref-2.ensures c.in_ok-write_to_entry.ensures.ok)
    (λ r. refl) (λ r. ap (option_map (bytes_after_write c.args.offset c.args.bytes.now)))
