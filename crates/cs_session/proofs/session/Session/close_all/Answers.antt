use Rattle.std.proofs.Common.{◌∙◌, sym}
use Rattle.cs_session.proofs.Turns.{closes}
use Rattle.cs_session.proofs.session.Session.close_all.Goals as goal

pub loop-fid-smaller : goal.loop-fid-smaller
loop-fid-smaller g c = c.close_step-reply.ensures.fewer c.loop-fid.invariant.awaited c.in-Some.ensures.found

pub loop-fid-preserved : goal.loop-fid-preserved
loop-fid-preserved g c = record {
  awaited = c.close_step-reply.ensures.awaited ∙ c.loop-fid.invariant.awaited;
  before = λ message reply s p e a.
      c.loop-fid.invariant.before message reply s p e
      (closes g.P.Port.gives c.args.now message c.loop-fid.self c.loop-fid.port c.in-Some.fid c.close_step-reply.result
      c.close_step-reply.new.self c.close_step-reply.new.port e
      (sym c.in-Some.ensures.least) c.close_step-reply.ensures.takes reply s p a);
}
