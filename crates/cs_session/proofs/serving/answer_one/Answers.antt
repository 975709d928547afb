use Rattle.std.proofs.Common.{arith}
use Rattle.cs_session.proofs.Conversing.{on_ok}
use Rattle.cs_session.proofs.serving.answer_one.Goals as goal

pub returns-clause-answered : goal.returns-clause-answered
returns-clause-answered g c = record {
  wire_reply = _;
  replied = c.reply-reply.ensures.replied;
  adds = on_ok _ _ (c.encode_reply.ensures.room (omega (arith, c.requires.room, c.reply-reply.ensures.fits.fits.is_small)))
      c.encode_reply.ensures.ok;
}
