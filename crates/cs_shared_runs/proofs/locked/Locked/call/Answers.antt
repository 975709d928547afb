use Rattle.cs_shared_runs.proofs.Widening.{answer_of_server}
use Rattle.cs_shared_runs.proofs.locked.Locked.call.Goals as goal

pub returns-clause-answers : goal.returns-clause-answers
returns-clause-answers g c =
    answer_of_server g.S.ServerBrand.serves c.self.inside.inside c.self.invariant c.args.key.now.number c.args.pass.now c.args.now
    c.args.call c.answer.result c.answer.new.pass c.answer.ensures.answers
