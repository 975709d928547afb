use Rattle.std.proofs.Common.{◌∙◌, sym}
use Rattle.cs_session.proofs.Maps.{taken_fewer}
use Rattle.cs_session.proofs.closing.decide_close.Goals as goal

pub returns-clause-fewer : goal.returns-clause-fewer
returns-clause-fewer c =
    taken_fewer c.args.fids.now.fids c.take_any.new.self.fids c.args.fid _ (sym c.take_any.ensures.value ∙ c.in-Ok-Opened.is)
    c.in-Ok-Opened.ensures.fids
