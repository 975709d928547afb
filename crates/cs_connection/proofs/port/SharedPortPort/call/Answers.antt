use Rattle.std.proofs.Common.{◌<◌, refl, arith, vec_len}
use Rattle.cs_connection.proofs.Calling.{called, stray}
use Rattle.cs_connection.proofs.port.SharedPortPort.call.Goals as goal

pub returns-then-given-run-clause-given : goal.returns-then-given-run-clause-given
returns-then-given-run-clause-given g c =
    let low : c.args.pass < vec_len c.self.inside.passes = c.in-Some.ensures.variant.0 refl in
    rw (← c.self.view_is)
    (stray g.S.ServerBrand.serves g.S.AnswersCalls.answered g.S.AnswersCalls.attached c.self.inside.runs.items
    c.self.inside.passes.items c.args.run c.args.pass c.in-Some.given.now
    (omega (arith, low, c.self.inside.passes.ok)) c.in-Some.ensures.value c.args.now c.args.call c.if-given-run.true)

pub returns-clause-given : goal.returns-clause-given
returns-clause-given g c =
    let low : c.args.pass < vec_len c.self.inside.passes = c.in-Some.ensures.variant.0 refl in
    rw (← c.self.view_is)
    (called g.S.ServerBrand.serves g.S.AnswersCalls.answered g.S.AnswersCalls.attached c.self.inside.runs.items
    c.self.inside.passes.items c.args.run c.args.pass c.in-Some.given.now
    (omega (arith, low, c.self.inside.passes.ok)) c.in-Some.ensures.value c.self.invariant c.index-found.result.now
    c.index-found.result.now.number c.index-found.ensures refl c.if-given-run.false c.args.now c.args.call c.call-2.result
    c.call-2.new.pass c.call-2.ensures.source c.call-2.ensures.answers)
