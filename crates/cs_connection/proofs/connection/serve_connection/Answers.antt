use Rattle.cs_connection.proofs.Ending.{has_ended, serving}
use Rattle.cs_connection.proofs.connection.serve_connection.Goals as goal

pub invariant_of-result : goal.invariant_of-result
invariant_of-result g c =
    has_ended g.S.ServerBrand.serves g.S.AnswersCalls.answered g.S.AnswersCalls.attached c.serve_stream-result.result _ _ _ _ _ _
    c.into_kept.result c.new-port.ensures c.into_kept.ensures c.serve_stream-result.ensures.serves

pub returns-clause-serves : goal.returns-clause-serves
returns-clause-serves g c =
    serving g.S.ServerBrand.serves g.S.AnswersCalls.answered g.S.AnswersCalls.attached c.serve_stream-result.result _ _ _ _ _ _
    c.into_kept.result c.new-port.ensures c.into_kept.ensures c.serve_stream-result.ensures.serves
