use Rattle.std.proofs.Common.{arith}
use Rattle.cs_world.proofs.Moving.{attaches, fitting_more}
use Rattle.cs_world.proofs.run_with_passes.RunWithPasses.attach.Goals as goal

pub invariant_of-self-2 : goal.invariant_of-self-2
invariant_of-self-2 c =
    rw (c.push_reserved.ensures.items, c.reserve.ensures.items) (
    fitting_more c.self.inside.run c.self.inside.passes.items c.self.invariant c.new_pass.new.self c.in_ok-pass.pass
    c.in_ok-pass.ensures.run c.in_ok-pass.ensures.pass c.args.now (record {
      user = c.args.user;
    }) c.step-answer.result c.step-answer.new.self c.step-answer.new.pass c.step-answer.ensures.stepped
    c.step-answer.ensures.fits c.new_pass.ensures.others c.step-answer.ensures.others)

pub returns : goal.returns
returns c =
    rw (← c.self.view_is) (
    attaches c.self.inside.run c.self.inside.passes.items c.self.invariant c.new_pass.new.self c.in_ok-pass.pass c.in_ok-pass.ensures.run
    c.in_ok-pass.ensures.pass c.args.now (record {
      user = c.args.user;
    }) c.step-answer.result c.step-answer.new.self c.step-answer.new.pass c.step-answer.ensures.stepped
    (omega arith) c.number-number.result c.number-number.ensures)
