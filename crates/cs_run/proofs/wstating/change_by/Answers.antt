use Rattle.cs_run.proofs.Wstats.{length_has_room, length_of_file, mode_keeps_kind, name_is_free, name_not_of_root}
use Rattle.cs_run.proofs.wstating.change_by.Goals as goal

pub change-requires-clause-file : goal.change-requires-clause-file
change-requires-clause-file g c =
    length_of_file (g.T.TreeRead.tree c.args.tree.now) c.requires.granted.0 c.args.call.now c.args.change.now c.requires.granted.1
    c.requires.requested

pub change-requires-clause-room : goal.change-requires-clause-room
change-requires-clause-room g c =
    length_has_room (g.T.TreeRead.tree c.args.tree.now) c.requires.granted.0 c.args.call.now c.args.change.now c.requires.granted.1
    c.requires.requested

pub change-requires-clause-kind : goal.change-requires-clause-kind
change-requires-clause-kind g c =
    mode_keeps_kind (g.T.TreeRead.tree c.args.tree.now) c.requires.granted.0 c.args.call.now c.args.change.now c.requires.granted.1
    c.requires.requested

pub change-requires-clause-not_root : goal.change-requires-clause-not_root
change-requires-clause-not_root g c =
    name_not_of_root (g.T.TreeRead.tree c.args.tree.now) c.requires.granted.0 c.args.call.now c.args.change.now c.requires.granted.1
    c.requires.requested

pub change-requires-clause-free : goal.change-requires-clause-free
change-requires-clause-free g c =
    name_is_free (g.T.TreeRead.tree c.args.tree.now) c.requires.granted.0 c.args.call.now c.args.change.now c.requires.granted.1
    c.requires.requested
