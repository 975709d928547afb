use Rattle.std.proofs.Common.{arith, subst, ◌∙◌}
use Rattle.std.proofs.lemmas.List.{get_or_read}
use Rattle.std.specs.FinMap.{from_entries}
use Rattle.cs_trace.specs.Traces.{entries_of_paths}
use Rattle.cs_micro.specs.declared.micro_op.MicroOp.TheVariants.{Say}
use Rattle.cs_apm.specs.Held.{HoldsAll, held_of}
use Rattle.cs_apm.proofs.Holding.{touched_more}
use Rattle.cs_apm.proofs.held.held_entries.Goals as goal

pub loop-op-init : goal.loop-op-init
unfolding entries_of_paths
loop-op-init c =
    let few = c.in_ok-pairs.ensures.few in
    let held = c.in_ok-held.ensures.few in
    record {
      start = subst (λ ps. HoldsAll (held_of c.in_ok-held.held) (from_entries ps)) c.in_ok-pairs.ensures.pairs c.in_ok-held.ensures.held;
      touched = λ k low. absurd (omega (arith, low));
      few = omega (arith, few, held);
    }

pub loop-op-preserved : goal.loop-op-preserved
loop-op-preserved c =
    let i = c.loop-op.op-index in
    let few = c.in_ok-add_all_touched.ensures.few in
    let so_far = c.loop-op.invariant.few in
    record {
      start = λ e. c.in_ok-add_all_touched.ensures.same e ∙ c.loop-op.invariant.start e;
      touched = touched_more c.args.ops.now i c.op-item.result (held_of c.loop-op.held) (held_of c.add_all_touched.new.held)
          (get_or_read c.args.ops.now i c.op-item.result c.loop-op-test.true c.op-item.is Say)
          c.in_ok-add_all_touched.ensures.others c.in_ok-add_all_touched.ensures.there c.loop-op.invariant.touched;
      few = omega (arith, few, so_far);
    }
