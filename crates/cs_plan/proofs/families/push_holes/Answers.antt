use Rattle.std.proofs.Common.{arith, ap, sym, ◌∙◌, length, ◌≡◌, ◌++◌}
use Rattle.std.proofs.lemmas.List.{append-nil}
use Rattle.cs_sets.specs.Orders.{needs_in}
use Rattle.cs_plan.specs.Plans.{holes_of, holes_at}
use Rattle.cs_plan.proofs.Listed.{holes_more, push_after}
use Rattle.cs_plan.proofs.families.push_holes.Goals as goal

pub loop-last-init : goal.loop-last-init
unfolding holes_of
loop-last-init c = sym (append-nil c.args.recipes.now.items)

pub loop-last-preserved : goal.loop-last-preserved
loop-last-preserved c =
    let needs = needs_in c.args.order.now in
    let k = c.loop-last.last in
    push_after c.push_holes_at.new.recipes.items c.loop-last.recipes.items c.args.recipes.now.items (holes_of needs k) (holes_at needs k)
    c.in_ok-push_holes_at.ensures c.loop-last.invariant
    ∙ ap (λ v. c.args.recipes.now.items ++ v) (sym (holes_more needs k))

pub returns : goal.returns
returns c =
    c.loop-last.invariant ∙
    (let e : c.loop-last.last ≡ length c.args.order.now = omega arith in
    ap (λ k. c.args.recipes.now.items ++ holes_of (needs_in c.args.order.now) k) e)
