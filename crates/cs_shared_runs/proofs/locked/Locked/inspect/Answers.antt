use Rattle.cs_shared_runs.proofs.Widening.{look_of_server}
use Rattle.cs_shared_runs.proofs.locked.Locked.inspect.Goals as goal

pub returns-clause-answers : goal.returns-clause-answers
returns-clause-answers g c =
    look_of_server g.S.ServerBrand.serves c.self.inside.inside c.self.invariant c.args.number (g.K.Look.may_return c.args.look)
    c.inspect.result c.inspect.ensures.answers
