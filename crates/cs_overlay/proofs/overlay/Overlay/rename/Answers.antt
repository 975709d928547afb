use Rattle.std.proofs.Common.{◌≡◌, nat_eq, IsSome, IfSome, None, Some, sym, ap, ◌∙◌, subst}
use Rattle.std.proofs.lemmas.Result.{err_from_is_err_and}
use Rattle.std.specs.Arc.{arc_value}
use Rattle.std.specs.HashMap.{get}
use Rattle.std.specs.Option.{IsSomeAnd, option_copied}
use Rattle.cs_tree_model.specs.Record.{IsDirectory}
use Rattle.cs_tree_model.specs.Stores.{changed_record}
use Rattle.cs_tree_model.specs.Tree.{number_in}
use Rattle.cs_overlay.specs.Layers.{StepsAt, layered_lookup, layers, own_in}
use Rattle.cs_overlay.proofs.Holding.{above_in, file_if_in, over_same, parent_stamps_in, stamps_in, there_in, tree_same, unseen}
use Rattle.cs_overlay.proofs.Removing.{apart, own_found}
use Rattle.cs_overlay.proofs.Renaming.{over_renamed, tree_renamed}
use Rattle.cs_overlay.proofs.Unseen.{same_step}
use Rattle.cs_overlay.proofs.Views.{found_is, name_there, parent_there}
use Rattle.cs_overlay.proofs.overlay.Overlay.rename.Goals as goal

pub unreachable-requires : goal.unreachable-requires
unreachable-requires g c =
    parent_there (g.L.TreeRead.tree (arc_value c.self.inside.lower)) (get nat_eq c.self.inside.nodes) _ _ c.self.invariant _
    c.self.view_is c.args.number c.requires.there (sym c.parent_of.ensures ∙ c.in_default.is)

pub unreachable-requires-in_default-name_of : goal.unreachable-requires-in_default-name_of
unreachable-requires-in_default-name_of g c =
    name_there (g.L.TreeRead.tree (arc_value c.self.inside.lower)) (get nat_eq c.self.inside.nodes) _ _ c.self.invariant _
    c.self.view_is c.args.number c.requires.not_root c.requires.there
    (sym c.name_of.ensures ∙ ap option_copied c.in_default-name_of.is)

pub copy_up-requires : goal.copy_up-requires
copy_up-requires g c =
    subst (λ v. IsSome (layers (g.L.TreeRead.tree v) (get nat_eq c.self.inside.nodes) c.args.number)) (sym c.deref.ensures)
    (there_in (g.L.TreeRead.tree (arc_value c.self.inside.lower)) (get nat_eq c.self.inside.nodes) _ _ c.self.invariant _ c.self.view_is
    c.args.number c.requires.there)

pub invariant_of-self : goal.invariant_of-self
invariant_of-self g c =
    (unseen g.L.TreeRead.tree c.deref.ensures c.copy_up.ensures.same c.self.invariant c.self.view_is).held

pub returns-in_err-copy_up-clause-err : goal.returns-in_err-copy_up-clause-err
returns-in_err-copy_up-clause-err g c =
    let p = err_from_is_err_and c.from_residual-in_err-copy_up.result c.from_residual-in_err-copy_up.ensures.1 in
    let after = unseen g.L.TreeRead.tree c.deref.ensures c.copy_up.ensures.same c.self.invariant c.self.view_is in
    rw p.1 after.view

pub insert_both_answers-requires-clause-there : goal.insert_both_answers-requires-clause-there
insert_both_answers-requires-clause-there g c =
    let one = get nat_eq c.copy_up.new.nodes in
    let after = unseen g.L.TreeRead.tree c.deref.ensures c.copy_up.ensures.same c.self.invariant c.self.view_is in
    subst (λ v. IsSomeAnd (layers (g.L.TreeRead.tree v) one c.in-Some.directory) (λ d. IsDirectory d.file)) (sym c.deref.ensures)
    (above_in (g.L.TreeRead.tree (arc_value c.self.inside.lower)) one _ _ after.held _ after.view c.args.number c.requires.not_root
    c.requires.there
    c.in-Some.directory c.in-Some.ensures)

pub insert_both_answers-requires-clause-old : goal.insert_both_answers-requires-clause-old
insert_both_answers-requires-clause-old g c =
    let one = get nat_eq c.copy_up.new.nodes in
    let after = unseen g.L.TreeRead.tree c.deref.ensures c.copy_up.ensures.same c.self.invariant c.self.view_is in
    subst (λ v. layered_lookup (g.L.TreeRead.tree v) one c.in-Some.directory c.in_ok-old_answer.old_answer ≡ Some c.args.number)
    (sym c.deref.ensures)
    (own_found (g.L.TreeRead.tree (arc_value c.self.inside.lower)) one _ _ after.held _ after.view c.args.number c.requires.not_root
    c.requires.there
    c.in-Some.directory c.in-Some.ensures c.in_ok-old_answer.old_answer
    (ap Some (c.in_ok-old_answer.ensures ∙ c.in_ok-old.ensures) ∙ c.in-Some-name_of.ensures))

pub insert_both_answers-requires-clause-new : goal.insert_both_answers-requires-clause-new
insert_both_answers-requires-clause-new g c =
    let one = get nat_eq c.copy_up.new.nodes in
    let after = unseen g.L.TreeRead.tree c.deref.ensures c.copy_up.ensures.same c.self.invariant c.self.view_is in
    let free-above = subst (λ o. IfSome o (λ u. number_in c.args.self.now u c.args.name ≡ None)) (sym c.in-Some.ensures) c.requires.free in
    subst (λ v. layered_lookup (g.L.TreeRead.tree v) one c.in-Some.directory c.in_ok-new_answer.new_answer ≡ None) (sym c.deref.ensures)
    (found_is (g.L.TreeRead.tree (arc_value c.self.inside.lower)) one _ _ after.held _ after.view c.in-Some.directory
    c.in_ok-new_answer.new_answer ∙ ap
    (number_in c.args.self.now c.in-Some.directory) c.in_ok-new_answer.ensures ∙ free-above)

pub invariant_of-self-in_err-insert_both_answers : goal.invariant_of-self-in_err-insert_both_answers
invariant_of-self-in_err-insert_both_answers g c =
    let after = unseen g.L.TreeRead.tree c.deref.ensures c.copy_up.ensures.same c.self.invariant c.self.view_is in
    let after-2 = unseen g.L.TreeRead.tree c.deref.ensures c.insert_both_answers.ensures.same after.held after.view in
    after-2.held

pub returns-in_err-insert_both_answers-clause-err : goal.returns-in_err-insert_both_answers-clause-err
returns-in_err-insert_both_answers-clause-err g c =
    let p = err_from_is_err_and c.from_residual-in_err-insert_both_answers.result c.from_residual-in_err-insert_both_answers.ensures.1 in
    let after = unseen g.L.TreeRead.tree c.deref.ensures c.copy_up.ensures.same c.self.invariant c.self.view_is in
    let after-2 = unseen g.L.TreeRead.tree c.deref.ensures c.insert_both_answers.ensures.same after.held after.view in
    rw p.1 after-2.view

pub change_entry-requires-clause-vers : goal.change_entry-requires-clause-vers
change_entry-requires-clause-vers g c =
    let after = unseen g.L.TreeRead.tree c.deref.ensures c.copy_up.ensures.same c.self.invariant c.self.view_is in
    let two = get nat_eq c.insert_both_answers.new.nodes in
    let after-2 = unseen g.L.TreeRead.tree c.deref.ensures c.insert_both_answers.ensures.same after.held after.view in
    stamps_in (g.L.TreeRead.tree (arc_value c.self.inside.lower)) two _ _ after-2.held _ after-2.view c.args.number c.requires.vers

pub invariant_of-self-in_err-change_entry : goal.invariant_of-self-in_err-change_entry
invariant_of-self-in_err-change_entry g c =
    let after = unseen g.L.TreeRead.tree c.deref.ensures c.copy_up.ensures.same c.self.invariant c.self.view_is in
    let two = get nat_eq c.insert_both_answers.new.nodes in
    let after-2 = unseen g.L.TreeRead.tree c.deref.ensures c.insert_both_answers.ensures.same after.held after.view in
    over_same (g.L.TreeRead.tree (arc_value c.self.inside.lower)) two (get nat_eq c.change_entry.new.nodes)
    (same_step (g.L.TreeRead.tree (arc_value c.self.inside.lower)) c.args.number two (get nat_eq c.change_entry.new.nodes)
    (c.in_err-change_entry.ensures.err (g.L.TreeRead.tree (arc_value c.self.inside.lower)) after-2.held.nodes)) _ _ after-2.held

pub returns-in_err-change_entry-clause-err : goal.returns-in_err-change_entry-clause-err
returns-in_err-change_entry-clause-err g c =
    let p = err_from_is_err_and c.from_residual-in_err-change_entry.result c.from_residual-in_err-change_entry.ensures.1 in
    let after = unseen g.L.TreeRead.tree c.deref.ensures c.copy_up.ensures.same c.self.invariant c.self.view_is in
    let two = get nat_eq c.insert_both_answers.new.nodes in
    let after-2 = unseen g.L.TreeRead.tree c.deref.ensures c.insert_both_answers.ensures.same after.held after.view in
    rw p.1 (tree_same (g.L.TreeRead.tree (arc_value c.self.inside.lower)) two (get nat_eq c.change_entry.new.nodes)
    (same_step (g.L.TreeRead.tree (arc_value c.self.inside.lower)) c.args.number two (get nat_eq c.change_entry.new.nodes)
    (c.in_err-change_entry.ensures.err (g.L.TreeRead.tree (arc_value c.self.inside.lower)) after-2.held.nodes)) _ _ after-2.view)

pub move_name-requires-clause-vers : goal.move_name-requires-clause-vers
move_name-requires-clause-vers g c =
    let after = unseen g.L.TreeRead.tree c.deref.ensures c.copy_up.ensures.same c.self.invariant c.self.view_is in
    let two = get nat_eq c.insert_both_answers.new.nodes in
    let after-2 = unseen g.L.TreeRead.tree c.deref.ensures c.insert_both_answers.ensures.same after.held after.view in
    λ d here. parent_stamps_in (g.L.TreeRead.tree (arc_value c.self.inside.lower)) two _ _ after-2.held _ after-2.view c.args.number
    c.requires.vers_above c.in-Some.directory c.in-Some.ensures d
    (sym (c.change_entry.ensures.others c.in-Some.directory
    (λ e. apart (g.L.TreeRead.tree (arc_value c.self.inside.lower)) two _ _ after-2.held _ after-2.view c.args.number c.requires.not_root
    c.requires.there c.in-Some.directory c.in-Some.ensures c.in_ok-old.old (ap Some c.in_ok-old.ensures ∙ c.in-Some-name_of.ensures)
    (sym e))) ∙ here)

pub move_name-requires-clause-said : goal.move_name-requires-clause-said
move_name-requires-clause-said g c =
    let after = unseen g.L.TreeRead.tree c.deref.ensures c.copy_up.ensures.same c.self.invariant c.self.view_is in
    let two = get nat_eq c.insert_both_answers.new.nodes in
    let after-2 = unseen g.L.TreeRead.tree c.deref.ensures c.insert_both_answers.ensures.same after.held after.view in
    let s = c.in_ok-insert_both_answers.ensures.there in (
      s.0,
      c.change_entry.ensures.others c.in-Some.directory
          (λ e. apart (g.L.TreeRead.tree (arc_value c.self.inside.lower)) two _ _ after-2.held _ after-2.view c.args.number
          c.requires.not_root
          c.requires.there c.in-Some.directory c.in-Some.ensures c.in_ok-old.old (ap Some c.in_ok-old.ensures ∙ c.in-Some-name_of.ensures)
          (sym e)) ∙ s.1,
      subst (λ x. IsSome (own_in s.0.body x)) (c.in_ok-old_answer.ensures ∙ sym c.as_str.ensures.value) s.2,
      subst (λ x. IsSome (own_in s.0.body x)) c.in_ok-new_answer.ensures s.3,
    )

pub invariant_of-self-2 : goal.invariant_of-self-2
invariant_of-self-2 g c =
    let after = unseen g.L.TreeRead.tree c.deref.ensures c.copy_up.ensures.same c.self.invariant c.self.view_is in
    let two = get nat_eq c.insert_both_answers.new.nodes in
    let after-2 = unseen g.L.TreeRead.tree c.deref.ensures c.insert_both_answers.ensures.same after.held after.view in
    let free-above = subst (λ o. IfSome o (λ u. number_in c.args.self.now u c.args.name ≡ None)) (sym c.in-Some.ensures) c.requires.free in
    let s = c.in_ok-insert_both_answers.ensures.there in
    over_renamed (g.L.TreeRead.tree (arc_value c.self.inside.lower)) two _ _ after-2.held _ after-2.view c.args.number c.requires.not_root
    c.requires.there c.in-Some.directory c.in-Some.ensures
    c.as_str.result.now (ap Some (c.as_str.ensures.value ∙ c.in_ok-old.ensures) ∙ c.in-Some-name_of.ensures) c.args.fields.now c.args.stamp
    c.args.name c.requires.named free-above (get nat_eq c.change_entry.new.nodes) (get nat_eq c.move_name.new.nodes)
    (subst (λ m. StepsAt (g.L.TreeRead.tree (arc_value c.self.inside.lower)) c.args.number (changed_record c.args.fields.now m) two
    (get nat_eq c.change_entry.new.nodes)) c.in_ok-moment.ensures
    (c.in_ok-change_entry.ensures.ok (g.L.TreeRead.tree (arc_value c.self.inside.lower)) after-2.held.nodes
    (file_if_in (g.L.TreeRead.tree (arc_value c.self.inside.lower)) two _ _ after-2.held _ after-2.view c.args.fields.now.length
    c.args.number
    c.requires.file))) (
      s.0,
      s.1,
      subst (λ x. IsSome (own_in s.0.body x)) (c.in_ok-old_answer.ensures ∙ sym c.as_str.ensures.value) s.2,
      subst
          (λ x. IsSome (own_in s.0.body x)) c.in_ok-new_answer.ensures s.3,
    )
    c.move_name.ensures

pub returns-clause-ok : goal.returns-clause-ok
returns-clause-ok g c =
    let after = unseen g.L.TreeRead.tree c.deref.ensures c.copy_up.ensures.same c.self.invariant c.self.view_is in
    let two = get nat_eq c.insert_both_answers.new.nodes in
    let after-2 = unseen g.L.TreeRead.tree c.deref.ensures c.insert_both_answers.ensures.same after.held after.view in
    let free-above = subst (λ o. IfSome o (λ u. number_in c.args.self.now u c.args.name ≡ None)) (sym c.in-Some.ensures) c.requires.free in
    let s = c.in_ok-insert_both_answers.ensures.there in
    tree_renamed (g.L.TreeRead.tree (arc_value c.self.inside.lower)) two _ _ after-2.held _ after-2.view c.args.number c.requires.not_root
    c.requires.there c.in-Some.directory c.in-Some.ensures
    c.as_str.result.now (ap Some (c.as_str.ensures.value ∙ c.in_ok-old.ensures) ∙ c.in-Some-name_of.ensures) c.args.fields.now c.args.stamp
    c.args.name c.requires.named free-above (get nat_eq c.change_entry.new.nodes) (get nat_eq c.move_name.new.nodes)
    (subst (λ m. StepsAt (g.L.TreeRead.tree (arc_value c.self.inside.lower)) c.args.number (changed_record c.args.fields.now m) two
    (get nat_eq c.change_entry.new.nodes)) c.in_ok-moment.ensures
    (c.in_ok-change_entry.ensures.ok (g.L.TreeRead.tree (arc_value c.self.inside.lower)) after-2.held.nodes
    (file_if_in (g.L.TreeRead.tree (arc_value c.self.inside.lower)) two _ _ after-2.held _ after-2.view c.args.fields.now.length
    c.args.number
    c.requires.file))) (
      s.0,
      s.1,
      subst (λ x. IsSome (own_in s.0.body x)) (c.in_ok-old_answer.ensures ∙ sym c.as_str.ensures.value) s.2,
      subst
          (λ x. IsSome (own_in s.0.body x)) c.in_ok-new_answer.ensures s.3,
    )
    c.move_name.ensures
