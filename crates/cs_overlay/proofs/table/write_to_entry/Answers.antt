use Rattle.std.proofs.Common.{nat_eq}
use Rattle.std.specs.HashMap.{get}
use Rattle.cs_overlay.proofs.Unseen.{no_entry, some_node}
use Rattle.cs_overlay.proofs.table.write_to_entry.Goals as goal

pub write_node-requires-clause-there : goal.write_node-requires-clause-there
write_node-requires-clause-there g c =
    some_node (get nat_eq c.args.nodes.now) c.args.number c.in-Some.entry.now c.in-Some.ensures.value c.requires.there

pub unreachable-requires : goal.unreachable-requires
unreachable-requires g c = no_entry (get nat_eq c.args.nodes.now) c.args.number c.in-None.ensures.value c.requires.there
