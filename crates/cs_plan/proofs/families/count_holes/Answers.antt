use Rattle.std.proofs.Common.{arith, rules, ap, ◌∙◌, length, length-append, ◌≡◌}
use Rattle.cs_sets.specs.Orders.{needs_in}
use Rattle.cs_plan.specs.Plans.{holes_of, holes_at}
use Rattle.cs_plan.proofs.Listed.{holes_more}
use Rattle.cs_plan.proofs.families.count_holes.Goals as goal

pub loop-last-init : goal.loop-last-init
unfolding holes_of
loop-last-init c = search rules

pub loop-last-preserved : goal.loop-last-preserved
loop-last-preserved c =
    let needs = needs_in c.args.order.now in
    let k = c.loop-last.last in
    let e = ap length (holes_more needs k) ∙ length-append (holes_of needs k) (holes_at needs k) in
    record {
      so_far = omega (arith, e, c.loop-last.invariant.so_far, c.count_holes_at-count.ensures.value);
      small = omega arith;
    }

pub returns : goal.returns
returns c = record {
  value = c.loop-last.invariant.so_far ∙
      (let e : c.loop-last.last ≡ length c.args.order.now = omega arith in ap (λ k. length (holes_of (needs_in c.args.order.now) k)) e);
  small = omega arith;
}
