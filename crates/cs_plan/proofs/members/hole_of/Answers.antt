use Rattle.std.proofs.Common.{arith, ap, sym, ◌∙◌, ◌≡◌, ◌++◌, ◌∷◌, []}
use Rattle.cs_sets.specs.Orders.{needs_in}
use Rattle.cs_plan.specs.Plans.{places_of_hole, is_kept}
use Rattle.cs_plan.proofs.Listed.{kept_more, kept_same}
use Rattle.cs_plan.proofs.members.hole_of.Goals.{then-is_kept+in_ok-push, else-is_kept}
use Rattle.cs_plan.proofs.members.hole_of.Goals as goal

pub loop-place-preserved : goal.loop-place-preserved
loop-place-preserved c =
    let p = is_kept (needs_in c.args.order.now) c.args.missing in
    let k = c.loop-place.place in
    elim c.if-is_kept.branch [
      | then-is_kept+in_ok-push w ↦ ap (λ r. r.items) w.places-is ∙ w.in_ok-push.ensures.items ∙ ap (λ v. v ++ k ∷ [])
          c.loop-place.invariant ∙ sym (kept_more p k (sym c.is_kept.ensures ∙ w.if-is_kept.true))
      | else-is_kept w ↦ ap (λ r. r.items) w.places-is ∙ c.loop-place.invariant
          ∙ sym (kept_same p k (sym c.is_kept.ensures ∙ w.if-is_kept.false))
    ]

pub returns : goal.returns
returns c = let e : c.loop-place.place ≡ c.args.end = omega arith in
    c.loop-place.invariant ∙ ap (places_of_hole (needs_in c.args.order.now) c.args.missing) e
