use Rattle.std.specs.declared.borrow.CowStr.TheVariants.{Borrowed}
use Rattle.cs_wire.specs.declared.message.RBody.TheVariants as r
use Rattle.cs_session.specs.Sizes.{room_of}
use Rattle.cs_session.proofs.Fitting.{fits-error, reply_within, room_agreed, shown-printable}
use Rattle.cs_world.proofs.message.out_of_turn_reply.Goals as goal

pub returns-clause-fits : goal.returns-clause-fits
returns-clause-fits c = λ msize agreed.
    let room = room_agreed msize agreed in
    reply_within (room_of msize) c.from_le_bytes.result (r.Error (Borrowed c.text.result)) c.from_le_bytes.type_inv room.1
    (fits-error msize (Borrowed c.text.result) (shown-printable 48 c.text.result.now c.text.ensures.short c.text.ensures.printable))
