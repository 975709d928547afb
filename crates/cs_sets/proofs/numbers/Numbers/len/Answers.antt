use Rattle.std.proofs.Common.{arith, length, false, true}
use Rattle.cs_sets.specs.Orders.{needs_in}
use Rattle.cs_sets.specs.Laws.Counts.{every_counts}
use Rattle.cs_sets.specs.Laws.Futures.{count_one}
use Rattle.cs_sets.proofs.numbers.Numbers.len.Goals as goal

pub returns-clause-some : goal.returns-clause-some
returns-clause-some c =
    let needs = needs_in c.self.inside.order.now in
    let n = length c.self.inside.order.now in
    let e = c.self.invariant.counted in
    let f = every_counts needs n in
    let one = count_one needs n 0 (λ j. true) in
    omega (arith, e, f, one)
