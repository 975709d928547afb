use Rattle.std.proofs.Common.{nat_eq}
use Rattle.std.specs.HashMap.{get}
use Rattle.cs_tree.proofs.Lookups.{has_name, is_there, parent_can_stamp}
use Rattle.cs_tree.proofs.Removing.{held_after_remove, tree_after_remove}
use Rattle.cs_tree.proofs.plain.PlainTreeTreeStore.remove.Goals as goal

pub remove_node-requires-clause-there : goal.remove_node-requires-clause-there
remove_node-requires-clause-there c =
    is_there (get nat_eq c.self.inside.nodes) _ c.self.invariant _ c.self.view_is c.args.number c.requires.there

pub remove_node-requires-clause-named : goal.remove_node-requires-clause-named
remove_node-requires-clause-named c =
    has_name (get nat_eq c.self.inside.nodes) _ c.self.invariant _ c.self.view_is c.args.number c.requires.not_root

pub remove_node-requires-clause-vers : goal.remove_node-requires-clause-vers
remove_node-requires-clause-vers c =
    parent_can_stamp (get nat_eq c.self.inside.nodes) _ c.self.invariant _ c.self.view_is c.args.number c.requires.vers

pub invariant_of-self : goal.invariant_of-self
invariant_of-self c =
    held_after_remove (get nat_eq c.self.inside.nodes) _ c.self.invariant _ c.self.view_is c.args.number c.requires.not_root
    c.requires.there c.args.stamp c.requires.empty (get nat_eq c.remove_node.new.nodes) c.remove_node.ensures

pub returns-clause-ok : goal.returns-clause-ok
returns-clause-ok c =
    tree_after_remove (get nat_eq c.self.inside.nodes) _ c.self.invariant _ c.self.view_is c.args.number c.requires.not_root
    c.requires.there c.args.stamp c.requires.empty (get nat_eq c.remove_node.new.nodes) c.remove_node.ensures
