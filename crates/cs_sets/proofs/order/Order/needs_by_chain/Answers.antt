use Rattle.std.proofs.Common.{arith, ◌∙◌}
use Rattle.cs_sets.proofs.Ordering.{few, reach_low, chain_read}
use Rattle.cs_sets.proofs.order.Order.needs_by_chain.Goals as goal

pub index-requires : goal.index-requires
index-requires c =
    let inside =
    reach_low c.self.inside.rows.items c.self.inside.reach.items c.self.invariant.order c.args.self.now c.self.view_is c.args.j
    c.requires.second in
    omega (arith, inside, c.self.inside.reach.ok)

pub has_place-requires : goal.has_place-requires
has_place-requires c =
    few c.self.inside.rows.items c.self.inside.reach.items c.self.invariant.order c.args.self.now c.self.view_is c.args.i c.requires.first

pub returns : goal.returns
returns c =
    c.has_place.ensures
    ∙ chain_read c.self.inside.rows.items c.self.inside.reach.items c.self.invariant.order c.args.self.now c.self.view_is c.args.j c.args.i
    c.index.result.now c.requires.second c.index.ensures
