use Rattle.std.proofs.Common.{arith, below_more, get_or}
use Rattle.cs_apm.specs.Rules.{op_at}
use Rattle.cs_same_states.specs.Parts.{IsAlikeBy}
use Rattle.cs_same_states.proofs.leaving.are_alike_by.Goals as goal

pub loop-place-preserved : goal.loop-place-preserved
loop-place-preserved c =
    let slots = c.args.slots.now in
    below_more
    (λ k. IsAlikeBy c.args.pair.now slots.in_unchanged_slot.now slots.first.now slots.second.now
    (op_at c.args.pair.now.ops.now (get_or c.args.places.now k 0)))
    c.loop-place.place-index c.loop-place.invariant (c.in_ok-is_alike_at.ensures c.if-not-branch.false)

pub returns : goal.returns
returns c = let all = c.loop-place-test.false in λ yes k low. c.loop-place.invariant k (omega (arith, low, all))
