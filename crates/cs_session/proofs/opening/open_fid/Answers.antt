use Rattle.std.specs.FinMap.{get}
use Rattle.cs_session.proofs.Maps.{can_open, opens}
use Rattle.cs_session.proofs.opening.open_fid.Goals as goal

pub unwrap-requires-2 : goal.unwrap-requires-2
unwrap-requires-2 c =
    can_open c.args.fids.now.fids c.move_to.new.self.fids c.move_to.new.self.fids c.args.fid c.args.number c.args.mode c.args.open_number
    c.open.result (get c.args.fids.now.fids c.args.fid) c.requires c.move_to.ensures.fids c.open.ensures.faults

pub returns : goal.returns
returns c =
    opens c.args.fids.now.fids c.move_to.new.self.fids c.open.new.self.fids c.args.fid c.args.number c.args.mode c.args.open_number
    (get c.args.fids.now.fids c.args.fid) c.requires c.move_to.ensures.fids c.open.ensures.fids
