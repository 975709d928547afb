use Rattle.std.proofs.Common.{arith, length, ap, sym, ◌∙◌}
use Rattle.cs_sets.specs.Chains.{by_chain}
use Rattle.cs_sets.specs.Orders.{needs_in}
use Rattle.cs_sets.specs.Rows.{needed_in}
use Rattle.cs_sets.specs.Laws.Reaching.{chains_reach, every_reach, reach_transitive}
use Rattle.cs_sets.proofs.Carrying.{chains_are, columns_long}
use Rattle.cs_sets.proofs.Ordering.{backward}
use Rattle.cs_sets.proofs.order.Order.needed.Goals as goal

pub returns : goal.returns
returns c =
    let inside = c.self.inside in
    let needs = needs_in c.args.self.now in
    let back = backward inside.rows.items inside.reach.items c.self.invariant.order c.args.self.now c.self.view_is in
    let is = chains_reach needs back in
    let long = columns_long inside.rows.items inside.reach.items inside.needed.items c.self.invariant c.args.self.now c.self.view_is in
    let same = ap length c.deref.ensures.value in
    let few = c.self.invariant.order.few in
    let one = c.self.invariant.columns.long in
    let two = c.self.invariant.order.same in
    record {
      long = same ∙ long;
      few = omega (arith, same, few, one, two);
      backward = back;
      chains = ap needed_in c.deref.ensures.value
          ∙ chains_are inside.rows.items inside.reach.items inside.needed.items c.self.invariant c.args.self.now c.self.view_is;
      passed_on = reach_transitive needs (by_chain needs) is;
      sets = sym (every_reach needs (by_chain needs) is (length c.args.self.now));
    }
