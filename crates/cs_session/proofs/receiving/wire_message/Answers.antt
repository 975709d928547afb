use Rattle.cs_session.specs.Sizes.{room_of}
use Rattle.cs_session.proofs.Fitting.{reply_within, room_agreed}
use Rattle.cs_session.proofs.receiving.wire_message.Goals as goal

pub returns-clause-fits : goal.returns-clause-fits
returns-clause-fits c =
    let room = room_agreed c.args.msize c.requires.agreed in
    reply_within (room_of c.args.msize) c.args.tag c.body_of.result c.ranges.tag.fits room.1
    (c.body_of.ensures.fits c.args.msize c.requires.agreed c.requires.fits)
