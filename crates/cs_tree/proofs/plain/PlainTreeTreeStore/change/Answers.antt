use Rattle.std.proofs.Common.{◌+◌, IsSome, nat_eq, refl, sym, subst}
use Rattle.std.specs.HashMap.{get}
use Rattle.cs_tree.specs.Held.{IsHeld}
use Rattle.cs_tree.proofs.Changing.{held_with_fields, tree_with_fields}
use Rattle.cs_tree.proofs.Lookups.{can_stamp, has_name, is_there, parent_can_stamp}
use Rattle.cs_tree.proofs.Removing.{parent_there}
use Rattle.cs_tree.proofs.Renaming.{can_stamp_renamed, held_after_rename, tree_after_rename}
use Rattle.cs_tree.proofs.Tables.{one_table}
use Rattle.cs_tree.proofs.plain.PlainTreeTreeStore.change.Goals as goal

pub set_fields-requires : goal.set_fields-requires
set_fields-requires c = can_stamp (get nat_eq c.self.inside.nodes) _ c.self.invariant _ c.self.view_is c.args.number c.requires.vers

pub invariant_of-self : goal.invariant_of-self
invariant_of-self c =
    held_with_fields (get nat_eq c.self.inside.nodes) _ c.self.invariant _ c.self.view_is c.args.number c.requires.there c.args.fields.now
    c.args.stamp c.requires.file c.in_ok-bytes.bytes c.in_ok-bytes.ensures c.in_ok-group.group c.in_ok-group.ensures c.in_default.is
    (get nat_eq c.set_fields.new.nodes) c.set_fields.ensures

pub returns-in_default-clause-ok : goal.returns-in_default-clause-ok
returns-in_default-clause-ok c =
    tree_with_fields (get nat_eq c.self.inside.nodes) _ c.self.invariant _ c.self.view_is c.args.number c.requires.there c.args.fields.now
    c.args.stamp c.requires.file c.in_ok-bytes.bytes c.in_ok-bytes.ensures c.in_ok-group.group c.in_ok-group.ensures c.in_default.is
    (get nat_eq c.set_fields.new.nodes) c.set_fields.ensures

pub rename-requires-clause-there : goal.rename-requires-clause-there
rename-requires-clause-there c =
    is_there (get nat_eq c.self.inside.nodes) _ c.self.invariant _ c.self.view_is c.args.number c.requires.there

pub rename-requires-clause-above : goal.rename-requires-clause-above
rename-requires-clause-above c =
    parent_there (get nat_eq c.self.inside.nodes) _ c.self.invariant _ c.self.view_is c.args.number
    (c.requires.not_root (subst IsSome (sym c.in-Some.is) refl)) c.requires.there c.args.stamp

pub rename-requires-clause-named : goal.rename-requires-clause-named
rename-requires-clause-named c =
    has_name (get nat_eq c.self.inside.nodes) _ c.self.invariant _ c.self.view_is c.args.number
    (c.requires.not_root (subst IsSome (sym c.in-Some.is) refl))

pub rename-requires-clause-vers : goal.rename-requires-clause-vers
rename-requires-clause-vers c =
    parent_can_stamp (get nat_eq c.self.inside.nodes) _ c.self.invariant _ c.self.view_is c.args.number
    (c.requires.vers_above (subst IsSome (sym c.in-Some.is) refl))

pub invariant_of-self-in_err-rename : goal.invariant_of-self-in_err-rename
invariant_of-self-in_err-rename c =
    subst (λ v. IsHeld v (c.self.inside.greatest + 1))
    (one_table (get nat_eq c.self.inside.nodes) (get nat_eq c.rename.new.nodes) c.in_err-rename.ensures.err) c.self.invariant

pub set_fields-requires-2 : goal.set_fields-requires-2
set_fields-requires-2 c =
    can_stamp_renamed (get nat_eq c.self.inside.nodes) _ c.self.invariant _ c.self.view_is c.args.number c.requires.there c.args.fields.now
    c.args.stamp c.requires.file c.in_ok-bytes.bytes c.in_ok-bytes.ensures c.in_ok-group.group c.in_ok-group.ensures
    (c.requires.not_root (subst IsSome (sym c.in-Some.is) refl)) c.in-Some.name c.in-Some.is c.requires.free c.in_ok-moment.moment
    c.in_ok-moment.ensures (get nat_eq c.rename.new.nodes) c.in_ok-rename.ensures.ok c.requires.vers

pub invariant_of-self-2 : goal.invariant_of-self-2
invariant_of-self-2 c =
    held_after_rename (get nat_eq c.self.inside.nodes) _ c.self.invariant _ c.self.view_is c.args.number c.requires.there c.args.fields.now
    c.args.stamp c.requires.file c.in_ok-bytes.bytes c.in_ok-bytes.ensures c.in_ok-group.group c.in_ok-group.ensures
    (c.requires.not_root (subst IsSome (sym c.in-Some.is) refl)) c.in-Some.name c.in-Some.is c.requires.free c.in_ok-moment.moment
    c.in_ok-moment.ensures (get nat_eq c.rename.new.nodes) c.in_ok-rename.ensures.ok (get nat_eq c.set_fields-2.new.nodes)
    c.set_fields-2.ensures

pub returns-clause-ok : goal.returns-clause-ok
returns-clause-ok c =
    tree_after_rename (get nat_eq c.self.inside.nodes) _ c.self.invariant _ c.self.view_is c.args.number c.requires.there c.args.fields.now
    c.args.stamp c.requires.file c.in_ok-bytes.bytes c.in_ok-bytes.ensures c.in_ok-group.group c.in_ok-group.ensures
    (c.requires.not_root (subst IsSome (sym c.in-Some.is) refl)) c.in-Some.name c.in-Some.is c.requires.free c.in_ok-moment.moment
    c.in_ok-moment.ensures (get nat_eq c.rename.new.nodes) c.in_ok-rename.ensures.ok (get nat_eq c.set_fields-2.new.nodes)
    c.set_fields-2.ensures
