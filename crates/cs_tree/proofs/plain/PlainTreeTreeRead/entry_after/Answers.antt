use Rattle.std.proofs.Common.{nat_eq, ap, ◌∙◌, unwrap_or, []}
use Rattle.std.specs.HashMap.{get}
use Rattle.std.specs.Option.{option_copied, option_map}
use Rattle.std.specs.String.{string_bytes}
use Rattle.cs_tree_model.specs.Nexts.{entry_name}
use Rattle.cs_tree.proofs.Listing.{entry_of, named, no_directory, number_of, own_name, there}
use Rattle.cs_tree.proofs.plain.PlainTreeTreeRead.entry_after.Goals as goal

pub returns-in_err-get-clause-name : goal.returns-in_err-get-clause-name
returns-in_err-get-clause-name c = ap (option_map entry_name) c.from_residual.ensures
    ∙ no_directory (get nat_eq c.self.inside.nodes) _ c.self.invariant _ c.self.view_is c.args.directory (option_copied c.args.last)
    (option_copied c.args.bound) c.in_err-get.ensures.value

pub returns-in_err-_key-clause-name : goal.returns-in_err-_key-clause-name
returns-in_err-_key-clause-name c = ap (option_map entry_name) c.from_residual-in_err-_key.ensures
    ∙ entry_of (get nat_eq c.self.inside.nodes) _ c.self.invariant _ c.self.view_is c.args.directory (option_copied c.args.last)
    (option_copied c.args.bound) c.in_ok-get.field-0.now c.in_ok-get.ensures.value _ c.in_err-_key.ensures.name

pub unreachable-requires : goal.unreachable-requires
unreachable-requires c =
    there (get nat_eq c.self.inside.nodes) _ c.self.invariant _ c.self.view_is c.args.directory (option_copied c.args.last)
    (option_copied c.args.bound) c.in_ok-get.field-0.now c.in_ok-get.ensures.value
    (string_bytes c.in_ok-_key._key.now) c.in_ok-_key.number c.in_ok-_key.ensures.number c.in_default.ensures.value

pub unreachable-requires-in_default-as_ref : goal.unreachable-requires-in_default-as_ref
unreachable-requires-in_default-as_ref c =
    named (get nat_eq c.self.inside.nodes) _ c.self.invariant _ c.self.view_is c.args.directory (option_copied c.args.last)
    (option_copied c.args.bound) c.in_ok-get.field-0.now c.in_ok-get.ensures.value
    (string_bytes c.in_ok-_key._key.now) c.in_ok-_key.number c.in_ok-_key.ensures.number c.in-Some.node.now
    c.in-Some.ensures.value c.in_default-as_ref.ensures.value

pub returns-clause-name : goal.returns-clause-name
returns-clause-name c =
    let at = get nat_eq c.self.inside.nodes in
    c.in-Some-as_ref.ensures.value
    ∙ own_name at _ c.self.invariant _ c.self.view_is c.args.directory (option_copied c.args.last) (option_copied c.args.bound)
    c.in_ok-get.field-0.now c.in_ok-get.ensures.value
    (string_bytes c.in_ok-_key._key.now) c.in_ok-_key.number c.in_ok-_key.ensures.number c.in-Some.node.now
    c.in-Some.ensures.value
    ∙ entry_of at _ c.self.invariant _ c.self.view_is c.args.directory (option_copied c.args.last) (option_copied c.args.bound)
    c.in_ok-get.field-0.now c.in_ok-get.ensures.value _ c.in_ok-_key.ensures.name

pub returns-clause-number : goal.returns-clause-number
returns-clause-number c =
    let at = get nat_eq c.self.inside.nodes in
    let same = ap (λ o. unwrap_or o []) (c.in-Some-as_ref.ensures.value
    ∙ own_name at _ c.self.invariant _ c.self.view_is c.args.directory (option_copied c.args.last) (option_copied c.args.bound)
    c.in_ok-get.field-0.now c.in_ok-get.ensures.value
    (string_bytes c.in_ok-_key._key.now) c.in_ok-_key.number c.in_ok-_key.ensures.number c.in-Some.node.now
    c.in-Some.ensures.value) in
    number_of at _ c.self.invariant _ c.self.view_is c.args.directory (option_copied c.args.last) (option_copied c.args.bound)
    c.in_ok-get.field-0.now c.in_ok-get.ensures.value
    (string_bytes c.in_ok-_key._key.now) c.in_ok-_key.number c.in_ok-_key.ensures.number c.in-Some-as_ref.name.now same
