use Rattle.std.proofs.Common.{ap, ◌∙◌, fold}
use Rattle.std.proofs.lemmas.List.{take_all}
use Rattle.cs_trace.specs.declared.limits.TheConstants.{LARGE_FILE_BYTES}
use Rattle.cs_same_states.specs.Reaching.{floor_after, floor_in}
use Rattle.cs_same_states.proofs.reaching.floor_of.Goals as goal

pub returns : goal.returns
unfolding floor_in
returns c =
    c.loop-op.invariant
    ∙ ap (fold (floor_after c.args.file) LARGE_FILE_BYTES) (take_all c.loop-op.op-index c.args.ops.now c.loop-op-test.false)
