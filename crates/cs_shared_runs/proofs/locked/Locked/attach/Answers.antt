use Rattle.cs_permit.specs.declared.call.Call.TheVariants as called
use Rattle.cs_shared_runs.proofs.Widening.{attach_of_server}
use Rattle.cs_shared_runs.proofs.locked.Locked.attach.Goals as goal

pub returns-clause-answers : goal.returns-clause-answers
returns-clause-answers g c =
    attach_of_server g.S.ServerBrand.serves c.self.inside.inside c.self.invariant c.args.key.now.number c.args.now
    (called.Attach (record { user = c.args.user })) c.attach.result c.attach.ensures.answers
