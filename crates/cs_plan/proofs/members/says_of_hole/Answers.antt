use Rattle.std.proofs.Common.{arith, ap, sym, ◌∙◌, ◌≡◌, true, false}
use Rattle.cs_sets.specs.Orders.{needs_in}
use Rattle.cs_apm.specs.Rules.{op_at}
use Rattle.cs_plan.specs.Plans.{places_of_hole, is_kept}
use Rattle.cs_plan.specs.Scenes.{is_say, says_of}
use Rattle.cs_plan.proofs.Counting.{around_more}
use Rattle.cs_plan.proofs.members.says_of_hole.Goals.{then-is_kept_say, else-is_kept_say}
use Rattle.cs_plan.proofs.members.says_of_hole.Goals as goal

pub loop-place-preserved : goal.loop-place-preserved
loop-place-preserved c =
    let more =
    around_more (λ place. is_say (op_at c.args.ops.now place)) (is_kept (needs_in c.args.order.now) c.args.missing) c.loop-place.place
    in
    let before = c.loop-place.invariant in
    elim c.if-is_kept_say.branch [
      | then-is_kept_say w ↦ (let told = more true (sym c.is_kept_say.ensures ∙ w.if-is_kept_say.true) in record {
        so_far = omega (arith, told, w.count-is, before.so_far);
        small = omega (arith, w.count-is, before.small);
      })
      | else-is_kept_say w ↦ (let untold = more false (sym c.is_kept_say.ensures ∙ w.if-is_kept_say.false) in record {
        so_far = omega (arith, untold, w.count-is, before.so_far);
        small = omega (arith, w.count-is, before.small);
      })
    ]

pub returns : goal.returns
returns c = let e : c.loop-place.place ≡ c.args.end = omega arith in
    c.loop-place.invariant.so_far ∙ ap (λ place. says_of c.args.ops.now (places_of_hole (needs_in c.args.order.now) c.args.missing place)) e
