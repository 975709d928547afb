use Rattle.std.proofs.Common.{nat_eq}
use Rattle.std.specs.HashMap.{get}
use Rattle.cs_overlay.proofs.Unseen.{no_entry, some_node}
use Rattle.cs_overlay.proofs.table.insert_answer.Goals as goal

pub insert_node_answer-requires : goal.insert_node_answer-requires
insert_node_answer-requires c =
    some_node (get nat_eq c.args.nodes.now) c.args.directory c.in-Some.entry.now c.in-Some.ensures.value c.requires

pub unreachable-requires : goal.unreachable-requires
unreachable-requires c = no_entry (get nat_eq c.args.nodes.now) c.args.directory c.in-None.ensures.value c.requires
