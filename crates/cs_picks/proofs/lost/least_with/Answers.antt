use Rattle.std.proofs.Common.{arith, ap, sym, ◌∙◌, ◌≡◌, ◌+◌, ◌++◌, ◌∷◌, [], length, subst}
use Rattle.std.specs.List.{filter, range_with_len}
use Rattle.cs_sets.specs.Orders.{needs_in}
use Rattle.cs_sets.specs.Sets.{IsAllowed}
use Rattle.cs_picks.proofs.Allowed.{least_allowed}
use Rattle.cs_picks.specs.Families.{is_needed}
use Rattle.cs_plan.proofs.Listed.{kept_more, kept_same}
use Rattle.cs_picks.proofs.lost.least_with.Goals.{then-is_needed+in_ok-push, else-is_needed}
use Rattle.cs_picks.proofs.lost.least_with.Goals as goal

pub loop-needed-preserved : goal.loop-needed-preserved
loop-needed-preserved c =
    let p = is_needed (needs_in c.args.order.now) c.args.place in
    let k = c.loop-needed.needed in
    elim c.if-is_needed.branch [
      | then-is_needed+in_ok-push w ↦ ap (λ r. r.items) w.set-is ∙ w.in_ok-push.ensures.items ∙ ap (λ v. v ++ k ∷ [])
          c.loop-needed.invariant ∙ sym (kept_more p k (sym c.is_needed.ensures ∙ w.if-is_needed.true))
      | else-is_needed w ↦ ap (λ r. r.items) w.set-is ∙ c.loop-needed.invariant ∙ sym
          (kept_same p k (sym c.is_needed.ensures ∙ w.if-is_needed.false))
    ]

pub returns-clause-value : goal.returns-clause-value
returns-clause-value c = let e : c.loop-needed.needed ≡ c.args.place + 1 = omega arith in
    c.loop-needed.invariant ∙ ap (λ n. filter (is_needed (needs_in c.args.order.now) c.args.place) (range_with_len 0 n)) e

pub returns-clause-allowed : goal.returns-clause-allowed
returns-clause-allowed c =
    let e : c.loop-needed.needed ≡ c.args.place + 1 = omega arith in
    let is = c.loop-needed.invariant ∙ ap (λ n. filter (is_needed (needs_in c.args.order.now) c.args.place) (range_with_len 0 n)) e in
    subst (IsAllowed (needs_in c.args.order.now) (length c.args.order.now)) (sym is)
    (least_allowed (needs_in c.args.order.now) (length c.args.order.now) c.len.ensures.backward c.args.place c.requires)
