use Rattle.std.proofs.Common.{◌+◌, nat_eq, subst}
use Rattle.std.specs.HashMap.{get}
use Rattle.cs_tree.specs.Held.{IsHeld}
use Rattle.cs_tree.proofs.Changing.{held_written, tree_written}
use Rattle.cs_tree.proofs.Lookups.{can_stamp, file_there, is_there}
use Rattle.cs_tree.proofs.Tables.{one_table}
use Rattle.cs_tree.proofs.plain.PlainTreeTreeStore.write_at.Goals as goal

pub write_node-requires-clause-there : goal.write_node-requires-clause-there
write_node-requires-clause-there c = let at = get nat_eq c.self.inside.nodes in
    is_there at _ c.self.invariant _ c.self.view_is c.args.number
    (file_there at _ c.self.invariant _ c.self.view_is c.args.number c.requires.file)

pub write_node-requires-clause-vers : goal.write_node-requires-clause-vers
write_node-requires-clause-vers c =
    can_stamp (get nat_eq c.self.inside.nodes) _ c.self.invariant _ c.self.view_is c.args.number c.requires.vers

pub invariant_of-self : goal.invariant_of-self
invariant_of-self c =
    subst (λ v. IsHeld v (c.self.inside.greatest + 1))
    (one_table (get nat_eq c.self.inside.nodes) (get nat_eq c.write_node.new.nodes) c.in_err-write_node.ensures.err) c.self.invariant

pub invariant_of-self-2 : goal.invariant_of-self-2
invariant_of-self-2 c =
    held_written (get nat_eq c.self.inside.nodes) _ c.self.invariant _ c.self.view_is c.args.number c.requires.file c.args.offset
    c.args.bytes.now c.args.stamp (get nat_eq c.write_node.new.nodes) c.in_ok-write_node.ensures.ok

pub returns-clause-ok : goal.returns-clause-ok
returns-clause-ok c =
    tree_written (get nat_eq c.self.inside.nodes) _ c.self.invariant _ c.self.view_is c.args.number c.requires.file c.args.offset
    c.args.bytes.now c.args.stamp (get nat_eq c.write_node.new.nodes) c.in_ok-write_node.ensures.ok
