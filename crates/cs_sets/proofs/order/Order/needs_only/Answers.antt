use Rattle.std.proofs.Common.{arith, ℕ, ◌≡◌, sym, ◌∙◌}
use Rattle.cs_sets.specs.Bits.{has_place}
use Rattle.cs_sets.specs.Orders.{needs_in}
use Rattle.cs_sets.proofs.Ordering.{backward, low, needs_read}
use Rattle.cs_sets.proofs.order.Order.needs_only.Goals as goal

pub index-requires : goal.index-requires
index-requires c =
    let inside =
    low c.self.inside.rows.items c.self.inside.reach.items c.self.invariant.order c.args.self.now c.self.view_is c.args.j c.requires in
    omega (arith, inside, c.self.inside.rows.ok)

pub returns : goal.returns
returns c =
    let rows = c.self.inside.rows.items in
    let reach = c.self.inside.reach.items in
    let same : (i : ℕ) → has_place c.index.result.now i ≡ needs_in c.args.self.now i c.args.j
    = λ i. needs_read rows reach c.self.invariant.order c.args.self.now c.self.view_is c.args.j i c.index.result.now c.requires
    c.index.ensures in
    record {
      backward = backward rows reach c.self.invariant.order c.args.self.now c.self.view_is;
      value = ((λ t i is. c.is_within.ensures.0 t i (same i ∙ is)), (λ h. c.is_within.ensures.1 (λ i is. h i (sym (same i) ∙ is))));
    }
