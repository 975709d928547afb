use Rattle.std.proofs.Common.{arith}
use Rattle.cs_sets.proofs.Ordering.{backward, long}
use Rattle.cs_sets.proofs.order.Order.len.Goals as goal

pub returns : goal.returns
returns c =
    let rows = c.self.inside.rows.items in
    let reach = c.self.inside.reach.items in
    let same = long rows reach c.self.invariant.order c.args.self.now c.self.view_is in
    record {
      value = omega (arith, same, c.len.ensures, c.self.inside.rows.ok);
      few = omega (arith, c.len.ensures, c.self.inside.rows.ok, c.self.invariant.order.few);
      backward = backward rows reach c.self.invariant.order c.args.self.now c.self.view_is;
    }
