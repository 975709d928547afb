use Rattle.std.proofs.Common.{arith, length}
use Rattle.cs_sets.specs.Orders.{needs_in}
use Rattle.cs_plan.proofs.Listed.{length_families, length_prefixes_only}
use Rattle.cs_plan.proofs.families.count_states.Goals as goal

pub returns-then-holes-clause-value : goal.returns-then-holes-clause-value
returns-then-holes-clause-value c =
    let e = length_families (needs_in c.args.order.now) (length c.args.order.now) c.args.holes c.if-holes.true in
    omega (arith, e, c.count_holes.ensures.value, c.len-count.ensures.value)

pub returns-else-holes-clause-value : goal.returns-else-holes-clause-value
returns-else-holes-clause-value c =
    let e = length_prefixes_only (needs_in c.args.order.now) (length c.args.order.now) c.args.holes c.if-holes.false in
    omega (arith, e, c.len-count.ensures.value)
