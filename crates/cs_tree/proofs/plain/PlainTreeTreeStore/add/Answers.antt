use Rattle.std.proofs.Common.{◌+◌, IsSome, ap, refl, sym, ◌∙◌, nat_eq, subst, arith}
use Rattle.std.proofs.lemmas.Bool.{false≢true}
use Rattle.std.proofs.lemmas.Result.{err_from_is_err_and}
use Rattle.std.specs.HashMap.{get}
use Rattle.std.specs.Option.{is_some}
use Rattle.std.specs.String.{string_bytes}
use Rattle.cs_tree_model.specs.Effects.{new_record}
use Rattle.cs_tree_model.specs.Table.{tree_of}
use Rattle.cs_tree.specs.Held.{IsHeld, model_nodes}
use Rattle.cs_tree.proofs.Adding.{can_stamp_grown, held_after_add, tree_after_add}
use Rattle.cs_tree.proofs.Lookups.{directory_there, next_is}
use Rattle.cs_tree.proofs.Tables.{one_table}
use Rattle.cs_tree.proofs.plain.PlainTreeTreeStore.add.Goals as goal

pub overflow_add-number : goal.overflow_add-number
overflow_add-number c = let e = next_is (get nat_eq c.self.inside.nodes) _ c.self.invariant _ c.self.view_is in let r = c.requires.next in
    omega (arith, e, r)

pub unreachable-requires : goal.unreachable-requires
unreachable-requires c =
    absurd (false≢true
    (ap is_some
    (c.in_default.ensures.value ∙
    (directory_there (get nat_eq c.self.inside.nodes) _ c.self.invariant _ c.self.view_is c.args.directory c.requires.directory).1)))

pub add_node-requires : goal.add_node-requires
add_node-requires c = subst IsSome c.in-Some.ensures.value refl

pub invariant_of-self : goal.invariant_of-self
invariant_of-self c =
    subst (λ v. IsHeld v (c.self.inside.greatest + 1))
    (one_table (get nat_eq c.self.inside.nodes) (get nat_eq c.add_node.new.nodes) c.in_err-add_node.ensures.err) c.self.invariant

pub returns-in_err-add_node-clause-err : goal.returns-in_err-add_node-clause-err
returns-in_err-add_node-clause-err c =
    let p = err_from_is_err_and c.from_residual-in_err-add_node.result c.from_residual-in_err-add_node.ensures.1 in
    rw p.1 (ap (λ v. tree_of (model_nodes v) (c.self.inside.greatest + 1))
    (sym (one_table (get nat_eq c.self.inside.nodes) (get nat_eq c.add_node.new.nodes) c.in_err-add_node.ensures.err)) ∙ c.self.view_is)

pub stamp_node-requires : goal.stamp_node-requires
stamp_node-requires c =
    can_stamp_grown (get nat_eq c.self.inside.nodes) _ c.self.invariant _ c.self.view_is c.args.directory c.in-Some.above.now
    c.in-Some.ensures.value
    c.requires.directory c.args.name c.args.new c.args.stamp c.requires.free c.in_ok-file.file
    (c.in_ok-file.ensures ∙ ap (λ g. new_record (c.self.inside.greatest + 1) g c.args.new c.args.stamp) c.in_ok-group.ensures)
    c.of-node.result c.of-node.ensures
    (string_bytes c.in_ok-key.key) (c.in_ok-key.ensures.cases ∙ c.as_string.ensures)
    (get nat_eq c.add_node.new.nodes) c.in_ok-add_node.ensures.ok
    c.requires.vers

pub invariant_of-self-2 : goal.invariant_of-self-2
invariant_of-self-2 c =
    held_after_add (get nat_eq c.self.inside.nodes) _ c.self.invariant _ c.self.view_is c.args.directory c.in-Some.above.now
    c.in-Some.ensures.value
    c.requires.directory c.args.name c.args.new c.args.stamp c.requires.free c.in_ok-file.file
    (c.in_ok-file.ensures ∙ ap (λ g. new_record (c.self.inside.greatest + 1) g c.args.new c.args.stamp) c.in_ok-group.ensures)
    c.of-node.result c.of-node.ensures
    (string_bytes c.in_ok-key.key) (c.in_ok-key.ensures.cases ∙ c.as_string.ensures)
    (get nat_eq c.add_node.new.nodes) c.in_ok-add_node.ensures.ok
    (get nat_eq c.stamp_node.new.nodes) c.stamp_node.ensures

pub returns-clause-number : goal.returns-clause-number
returns-clause-number c = sym (next_is (get nat_eq c.self.inside.nodes) _ c.self.invariant _ c.self.view_is)

pub returns-clause-ok : goal.returns-clause-ok
returns-clause-ok c =
    tree_after_add (get nat_eq c.self.inside.nodes) _ c.self.invariant _ c.self.view_is c.args.directory c.in-Some.above.now
    c.in-Some.ensures.value
    c.requires.directory c.args.name c.args.new c.args.stamp c.requires.free c.in_ok-file.file
    (c.in_ok-file.ensures ∙ ap (λ g. new_record (c.self.inside.greatest + 1) g c.args.new c.args.stamp) c.in_ok-group.ensures)
    c.of-node.result c.of-node.ensures
    (string_bytes c.in_ok-key.key) (c.in_ok-key.ensures.cases ∙ c.as_string.ensures)
    (get nat_eq c.add_node.new.nodes) c.in_ok-add_node.ensures.ok
    (get nat_eq c.stamp_node.new.nodes) c.stamp_node.ensures
