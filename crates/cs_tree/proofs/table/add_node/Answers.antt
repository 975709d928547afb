use Rattle.std.proofs.Common.{IsSome, Some, nat_eq, sym, ap, ◌∙◌, subst}
use Rattle.std.specs.HashMap.{get}
use Rattle.std.specs.String.{string_bytes}
use Rattle.cs_tree.specs.Node.{step_at, with_at, with_child}
use Rattle.cs_tree.proofs.Tables.{one_table}
use Rattle.cs_tree.proofs.table.add_node.Goals as goal

pub link_child-requires : goal.link_child-requires
link_child-requires c = subst (λ v. IsSome (v c.args.directory))
    (one_table (get nat_eq c.args.nodes.now) (get nat_eq c.reserve.new.self) c.in_ok-reserve.ensures.entries.2) c.requires

pub returns-clause-ok : goal.returns-clause-ok
returns-clause-ok c = λ q. c.insert_node.ensures q ∙ ap (λ v. with_at v c.args.number (Some c.args.node) q)
    (sym (one_table _ (get nat_eq c.link_child.new.nodes) c.in_ok-link_child.ensures.ok)
    ∙ ap (λ v. step_at v c.args.directory (λ d. with_child d (string_bytes c.args.name) c.args.number))
    (sym (one_table (get nat_eq c.args.nodes.now) (get nat_eq c.reserve.new.self) c.in_ok-reserve.ensures.entries.2)))
