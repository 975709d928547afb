use Rattle.std.proofs.Common.{arith, ap, sym, ◌∙◌, ◌≡◌, ◌++◌, ◌∷◌, [], length, subst}
use Rattle.cs_sets.specs.Orders.{needs_in}
use Rattle.cs_sets.specs.Sets.{IsAllowed}
use Rattle.cs_picks.proofs.Allowed.{left_allowed}
use Rattle.cs_picks.specs.Left.{left_of, stays}
use Rattle.cs_plan.proofs.Listed.{kept_more, kept_same}
use Rattle.cs_picks.proofs.left.left_of.Goals.{then-stays+in_ok-push, else-stays}
use Rattle.cs_picks.proofs.left.left_of.Goals as goal

pub loop-place-preserved : goal.loop-place-preserved
loop-place-preserved c =
    let p = stays (needs_in c.args.order.now) c.args.lost.now in
    let k = c.loop-place.place in
    elim c.if-stays.branch [
      | then-stays+in_ok-push w ↦ ap (λ r. r.items) w.left-is ∙ w.in_ok-push.ensures.items ∙ ap (λ v. v ++ k ∷ []) c.loop-place.invariant ∙
          sym (kept_more p k (sym c.stays.ensures ∙ w.if-stays.true))
      | else-stays w ↦ ap (λ r. r.items) w.left-is ∙ c.loop-place.invariant ∙ sym (kept_same p k (sym c.stays.ensures ∙ w.if-stays.false))
    ]

pub returns-clause-value : goal.returns-clause-value
returns-clause-value c = let e : c.loop-place.place ≡ c.args.end = omega arith in
    c.loop-place.invariant ∙ ap (left_of (needs_in c.args.order.now) c.args.lost.now) e

pub returns-clause-allowed : goal.returns-clause-allowed
returns-clause-allowed c =
    let e : c.loop-place.place ≡ c.args.end = omega arith in
    let is = c.loop-place.invariant ∙ ap (left_of (needs_in c.args.order.now) c.args.lost.now) e in
    subst (IsAllowed (needs_in c.args.order.now) (length c.args.order.now)) (sym is)
    (left_allowed (needs_in c.args.order.now) (length c.args.order.now) c.len.ensures.backward c.args.lost.now c.args.end
    c.requires.few)
