use Rattle.std.proofs.Common.{◌+◌, nat_eq, IsSome, Some, sym, ap, ◌∙◌, subst, arith}
use Rattle.std.proofs.lemmas.Result.{err_from_is_err_and}
use Rattle.std.specs.Arc.{arc_value}
use Rattle.std.specs.HashMap.{get}
use Rattle.std.specs.Option.{option_map}
use Rattle.cs_tree_model.specs.Tree.{record_numbered}
use Rattle.cs_tree_model.specs.declared.record.MetadataBuf.{MetadataBuf}
use Rattle.cs_overlay.specs.Layers.{SameNodes, IsOver, layers, step_at, with_answer}
use Rattle.cs_overlay.proofs.Adding.{group_lent, over_added, tree_added}
use Rattle.cs_overlay.proofs.Copies.{same_alike}
use Rattle.cs_overlay.proofs.Holding.{directory_in, over_same, stamps_in, stamps_said, tree_same, unseen}
use Rattle.cs_overlay.proofs.Unseen.{some_of}
use Rattle.cs_overlay.proofs.Views.{next_is}
use Rattle.cs_overlay.proofs.overlay.OverlayTreeStore.add.Goals as goal

pub overflow_add-number : goal.overflow_add-number
overflow_add-number g c = let e =
    next_is (g.L.TreeRead.tree (arc_value c.self.inside.lower)) (get nat_eq c.self.inside.nodes) _ _ c.self.invariant _ c.self.view_is in
    let r = c.requires.next in omega (arith, e, r)

pub copy_directory_up-requires : goal.copy_directory_up-requires
copy_directory_up-requires g c =
    subst (λ v. IsSome (layers (g.L.TreeRead.tree v) (get nat_eq c.self.inside.nodes) c.args.directory)) (sym c.deref.ensures)
    (some_of _ _
    (directory_in (g.L.TreeRead.tree (arc_value c.self.inside.lower)) (get nat_eq c.self.inside.nodes) _ _ c.self.invariant _ c.self.view_is
    c.args.directory c.requires.directory))

pub invariant_of-self : goal.invariant_of-self
invariant_of-self g c =
    (unseen g.L.TreeRead.tree c.deref.ensures c.copy_directory_up.ensures.same c.self.invariant c.self.view_is).held

pub returns-in_err-copy_directory_up-clause-err : goal.returns-in_err-copy_directory_up-clause-err
returns-in_err-copy_directory_up-clause-err g c =
    let p = err_from_is_err_and c.from_residual-in_err-copy_directory_up.result c.from_residual-in_err-copy_directory_up.ensures.1 in
    let after = unseen g.L.TreeRead.tree c.deref.ensures c.copy_directory_up.ensures.same c.self.invariant c.self.view_is in
    rw p.1 after.view

pub insert_answer-requires : goal.insert_answer-requires
insert_answer-requires g c = c.in_ok-copy_directory_up.ensures.there

pub invariant_of-self-in_err-insert_answer : goal.invariant_of-self-in_err-insert_answer
invariant_of-self-in_err-insert_answer g c =
    let one = get nat_eq c.copy_directory_up.new.nodes in
    let after = unseen g.L.TreeRead.tree c.deref.ensures c.copy_directory_up.ensures.same c.self.invariant c.self.view_is in
    over_same (g.L.TreeRead.tree (arc_value c.self.inside.lower)) one (get nat_eq c.insert_answer.new.nodes)
    (same_alike (g.L.TreeRead.tree (arc_value c.self.inside.lower)) one (get nat_eq c.insert_answer.new.nodes)
    c.in_err-insert_answer.ensures.err) _ _ after.held

pub returns-in_err-insert_answer-clause-err : goal.returns-in_err-insert_answer-clause-err
returns-in_err-insert_answer-clause-err g c =
    let p = err_from_is_err_and c.from_residual-in_err-insert_answer.result c.from_residual-in_err-insert_answer.ensures.1 in
    let one = get nat_eq c.copy_directory_up.new.nodes in
    let after = unseen g.L.TreeRead.tree c.deref.ensures c.copy_directory_up.ensures.same c.self.invariant c.self.view_is in
    rw p.1 (tree_same (g.L.TreeRead.tree (arc_value c.self.inside.lower)) one (get nat_eq c.insert_answer.new.nodes)
    (same_alike (g.L.TreeRead.tree (arc_value c.self.inside.lower)) one (get nat_eq c.insert_answer.new.nodes)
    c.in_err-insert_answer.ensures.err) _ _ after.view)

pub stamp_directory-requires : goal.stamp_directory-requires
stamp_directory-requires g c =
    let one = get nat_eq c.copy_directory_up.new.nodes in
    let after = unseen g.L.TreeRead.tree c.deref.ensures c.copy_directory_up.ensures.same c.self.invariant c.self.view_is in
    stamps_said (g.L.TreeRead.tree (arc_value c.self.inside.lower)) one (get nat_eq c.insert_answer.new.nodes) c.args.directory
    c.in_ok-key.key (Some (c.self.inside.greatest + 1))
    (stamps_in (g.L.TreeRead.tree (arc_value c.self.inside.lower)) one _ _ after.held _ after.view c.args.directory c.requires.vers)
    c.in_ok-copy_directory_up.ensures.there c.in_ok-insert_answer.ensures.ok

pub invariant_of-self-2 : goal.invariant_of-self-2
invariant_of-self-2 g c =
    let one = get nat_eq c.copy_directory_up.new.nodes in
    let after = unseen g.L.TreeRead.tree c.deref.ensures c.copy_directory_up.ensures.same c.self.invariant c.self.view_is in
    subst (IsOver (g.L.TreeRead.tree (arc_value c.self.inside.lower)) (get nat_eq c.set_entry.new.nodes) (c.self.inside.greatest + 1 + 1))
    (sym c.in-Some.ensures.1)
    (over_added (g.L.TreeRead.tree (arc_value c.self.inside.lower)) one _ _ after.held _ after.view c.args.directory c.requires.directory
    c.args.name
    c.args.new c.args.stamp c.requires.free c.in_ok-copy_directory_up.ensures.there
    c.in_ok-group.group
    (ap Some c.in_ok-group.ensures ∙ ap (option_map (λ (m : MetadataBuf). m.group)) c.in-Some-record.ensures.value ∙ group_lent
    (record_numbered c.args.self.now c.args.directory)) c.in_ok-node.node c.in_ok-node.ensures
    (get nat_eq c.insert_answer.new.nodes) (get nat_eq c.stamp_directory.new.nodes) (get nat_eq c.set_entry.new.nodes)
    (subst (λ k. SameNodes (step_at one c.args.directory (λ d. with_answer d k (Some (c.self.inside.greatest + 1))))
    (get nat_eq c.insert_answer.new.nodes)) c.in_ok-key.ensures c.in_ok-insert_answer.ensures.ok) c.stamp_directory.ensures.step
    c.set_entry.ensures)

pub returns-clause-number : goal.returns-clause-number
returns-clause-number g c =
    sym (next_is (g.L.TreeRead.tree (arc_value c.self.inside.lower)) (get nat_eq c.self.inside.nodes) _ _ c.self.invariant _ c.self.view_is)

pub returns-clause-ok : goal.returns-clause-ok
returns-clause-ok g c =
    let one = get nat_eq c.copy_directory_up.new.nodes in
    let after = unseen g.L.TreeRead.tree c.deref.ensures c.copy_directory_up.ensures.same c.self.invariant c.self.view_is in
    tree_added (g.L.TreeRead.tree (arc_value c.self.inside.lower)) one _ _ after.held _ after.view c.args.directory c.requires.directory
    c.args.name
    c.args.new c.args.stamp c.requires.free c.in_ok-copy_directory_up.ensures.there
    c.in_ok-group.group
    (ap Some c.in_ok-group.ensures ∙ ap (option_map (λ (m : MetadataBuf). m.group)) c.in-Some-record.ensures.value ∙ group_lent
    (record_numbered c.args.self.now c.args.directory)) c.in_ok-node.node c.in_ok-node.ensures
    (get nat_eq c.insert_answer.new.nodes) (get nat_eq c.stamp_directory.new.nodes) (get nat_eq c.set_entry.new.nodes)
    (subst (λ k. SameNodes (step_at one c.args.directory (λ d. with_answer d k (Some (c.self.inside.greatest + 1))))
    (get nat_eq c.insert_answer.new.nodes)) c.in_ok-key.ensures c.in_ok-insert_answer.ensures.ok) c.stamp_directory.ensures.step
    c.set_entry.ensures
