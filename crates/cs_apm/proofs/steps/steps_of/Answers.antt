use Rattle.std.proofs.Common.{◌∷◌, [], ◌++◌, ◌∙◌, ap, subst, sym, take}
use Rattle.std.proofs.lemmas.List.{get_or_read, take_more}
use Rattle.cs_micro.specs.declared.micro_op.MicroOp.TheVariants.{Say}
use Rattle.cs_apm.specs.Making.{HasTouched}
use Rattle.cs_apm.specs.Slots.{AreSteps}
use Rattle.cs_apm.proofs.Stepping.{steps_more}
use Rattle.cs_apm.proofs.steps.steps_of.Goals as goal

pub step_of-requires-clause-there : goal.step_of-requires-clause-there
step_of-requires-clause-there c =
    subst (HasTouched c.args.entries.now)
    (sym (get_or_read c.args.ops.now c.loop-op.op-index c.op-item.result c.loop-op-test.true c.op-item.is Say))
    (c.requires.there c.loop-op.op-index c.loop-op-test.true)

pub loop-op-preserved : goal.loop-op-preserved
loop-op-preserved c =
    let i = c.loop-op.op-index in
    let o = c.op-item.result in
    let es = c.args.entries.now in
    let more = take_more c.args.ops.now i o c.loop-op-test.true ∙ ap (λ x. take i c.args.ops.now ++ x ∷ []) (sym c.op-item.is) in
    subst (λ ops. AreSteps es ops c.push.new.self.items) (sym more)
    (subst (AreSteps es (take i c.args.ops.now ++ o ∷ [])) (sym c.in_ok-push.ensures.items)
    (steps_more es (take i c.args.ops.now) o c.loop-op.steps.items c.in_ok-step_of.field-0 c.loop-op.invariant c.in_ok-step_of.ensures))
