use Rattle.std.proofs.Common.{nat_eq, IsSome, None, Some, sym, ap, ◌∙◌, subst}
use Rattle.std.specs.Arc.{arc_value}
use Rattle.std.specs.HashMap.{get}
use Rattle.std.specs.Option.{option_copied}
use Rattle.cs_overlay.specs.Layers.{layers}
use Rattle.cs_overlay.proofs.Copies.{same_alike}
use Rattle.cs_overlay.proofs.Holding.{above_in, over_same, parent_stamps_in, stamps_said, unseen}
use Rattle.cs_overlay.proofs.Removing.{over_removed, some_count, tree_removed}
use Rattle.cs_overlay.proofs.Unseen.{some_of}
use Rattle.cs_overlay.proofs.Views.{name_there, parent_there}
use Rattle.cs_overlay.proofs.overlay.OverlayTreeStore.remove.Goals as goal

pub unreachable-requires : goal.unreachable-requires
unreachable-requires g c =
    parent_there (g.L.TreeRead.tree (arc_value c.self.inside.lower)) (get nat_eq c.self.inside.nodes) _ _ c.self.invariant _
    c.self.view_is c.args.number c.requires.there (sym c.parent_of.ensures ∙ c.in_default.is)

pub unreachable-requires-in_default-name_of : goal.unreachable-requires-in_default-name_of
unreachable-requires-in_default-name_of g c =
    name_there (g.L.TreeRead.tree (arc_value c.self.inside.lower)) (get nat_eq c.self.inside.nodes) _ _ c.self.invariant _
    c.self.view_is c.args.number c.requires.not_root c.requires.there (sym c.name_of.ensures ∙ ap option_copied c.in_default-name_of.is)

pub copy_directory_up-requires : goal.copy_directory_up-requires
copy_directory_up-requires g c =
    subst (λ v. IsSome (layers (g.L.TreeRead.tree v) (get nat_eq c.self.inside.nodes) c.in-Some.directory)) (sym c.deref.ensures)
    (some_of _ _
    (above_in (g.L.TreeRead.tree (arc_value c.self.inside.lower)) (get nat_eq c.self.inside.nodes) _ _ c.self.invariant _ c.self.view_is
    c.args.number c.requires.not_root c.requires.there c.in-Some.directory c.in-Some.ensures))

pub invariant_of-self : goal.invariant_of-self
invariant_of-self g c =
    (unseen g.L.TreeRead.tree c.deref.ensures c.copy_directory_up.ensures.same c.self.invariant c.self.view_is).held

pub insert_answer-requires : goal.insert_answer-requires
insert_answer-requires g c = c.in_ok-copy_directory_up.ensures.there

pub invariant_of-self-in_err-insert_answer : goal.invariant_of-self-in_err-insert_answer
invariant_of-self-in_err-insert_answer g c =
    let one = get nat_eq c.copy_directory_up.new.nodes in
    let after = unseen g.L.TreeRead.tree c.deref.ensures c.copy_directory_up.ensures.same c.self.invariant c.self.view_is in
    over_same (g.L.TreeRead.tree (arc_value c.self.inside.lower)) one (get nat_eq c.insert_answer.new.nodes)
    (same_alike (g.L.TreeRead.tree (arc_value c.self.inside.lower)) one (get nat_eq c.insert_answer.new.nodes)
    c.in_err-insert_answer.ensures.err) _ _ after.held

pub stamp_directory-requires : goal.stamp_directory-requires
stamp_directory-requires g c =
    let one = get nat_eq c.copy_directory_up.new.nodes in
    let after = unseen g.L.TreeRead.tree c.deref.ensures c.copy_directory_up.ensures.same c.self.invariant c.self.view_is in
    stamps_said (g.L.TreeRead.tree (arc_value c.self.inside.lower)) one (get nat_eq c.insert_answer.new.nodes) c.in-Some.directory
    c.in_ok-name.name None
    (parent_stamps_in (g.L.TreeRead.tree (arc_value c.self.inside.lower)) one _ _ after.held _ after.view c.args.number c.requires.vers
    c.in-Some.directory c.in-Some.ensures) c.in_ok-copy_directory_up.ensures.there c.in_ok-insert_answer.ensures.ok

pub overflow_sub-self : goal.overflow_sub-self
overflow_sub-self g c =
    let one = get nat_eq c.copy_directory_up.new.nodes in
    let after = unseen g.L.TreeRead.tree c.deref.ensures c.copy_directory_up.ensures.same c.self.invariant c.self.view_is in
    some_count (g.L.TreeRead.tree (arc_value c.self.inside.lower)) one _ _ after.held _ after.view c.args.number c.requires.not_root
    c.requires.there
    c.in-Some.directory c.in-Some.ensures c.in_ok-name.name (ap Some c.in_ok-name.ensures ∙ c.in-Some-name_of.ensures) c.args.stamp
    c.requires.empty c.in_ok-copy_directory_up.ensures.there (get nat_eq c.insert_answer.new.nodes) (get nat_eq c.stamp_directory.new.nodes)
    (get nat_eq c.set_entry.new.nodes) c.in_ok-insert_answer.ensures.ok c.stamp_directory.ensures.step c.set_entry.ensures

pub invariant_of-self-2 : goal.invariant_of-self-2
invariant_of-self-2 g c =
    let one = get nat_eq c.copy_directory_up.new.nodes in
    let after = unseen g.L.TreeRead.tree c.deref.ensures c.copy_directory_up.ensures.same c.self.invariant c.self.view_is in
    over_removed (g.L.TreeRead.tree (arc_value c.self.inside.lower)) one _ _ after.held _ after.view c.args.number c.requires.not_root
    c.requires.there
    c.in-Some.directory c.in-Some.ensures c.in_ok-name.name (ap Some c.in_ok-name.ensures ∙ c.in-Some-name_of.ensures) c.args.stamp
    c.requires.empty c.in_ok-copy_directory_up.ensures.there (get nat_eq c.insert_answer.new.nodes) (get nat_eq c.stamp_directory.new.nodes)
    (get nat_eq c.set_entry.new.nodes) c.in_ok-insert_answer.ensures.ok c.stamp_directory.ensures.step c.set_entry.ensures

pub returns-clause-ok : goal.returns-clause-ok
returns-clause-ok g c =
    let one = get nat_eq c.copy_directory_up.new.nodes in
    let after = unseen g.L.TreeRead.tree c.deref.ensures c.copy_directory_up.ensures.same c.self.invariant c.self.view_is in
    tree_removed (g.L.TreeRead.tree (arc_value c.self.inside.lower)) one _ _ after.held _ after.view c.args.number c.requires.not_root
    c.requires.there
    c.in-Some.directory c.in-Some.ensures c.in_ok-name.name (ap Some c.in_ok-name.ensures ∙ c.in-Some-name_of.ensures) c.args.stamp
    c.requires.empty c.in_ok-copy_directory_up.ensures.there (get nat_eq c.insert_answer.new.nodes) (get nat_eq c.stamp_directory.new.nodes)
    (get nat_eq c.set_entry.new.nodes) c.in_ok-insert_answer.ensures.ok c.stamp_directory.ensures.step c.set_entry.ensures
