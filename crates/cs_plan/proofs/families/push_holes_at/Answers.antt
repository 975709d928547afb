use Rattle.std.proofs.Common.{arith, ap, sym, ◌∙◌, ◌+◌, ◌≡◌, ◌++◌, ◌∷◌, []}
use Rattle.cs_sets.specs.Orders.{needs_in}
use Rattle.cs_plan.specs.declared.recipe.Recipe.TheVariants.{Hole}
use Rattle.cs_plan.proofs.Listed.{holes_below, below_more, below_same, push_after}
use Rattle.cs_plan.proofs.families.push_holes_at.Goals.{then-is_kept+in_ok-push, else-is_kept}
use Rattle.cs_plan.proofs.families.push_holes_at.Goals as goal

pub loop-missing-preserved : goal.loop-missing-preserved
loop-missing-preserved c =
    let needs = needs_in c.args.order.now in
    let i = c.loop-missing.missing in
    let k = c.args.last in
    let old = c.args.recipes.now.items in
    elim c.if-is_kept.branch [
      | then-is_kept+in_ok-push w ↦ ap (λ r. r.items) w.recipes-is ∙ push_after w.push.new.self.items c.loop-missing.recipes.items old
          (holes_below needs k i) (Hole i (k + 1) ∷ []) w.in_ok-push.ensures.items c.loop-missing.invariant
          ∙ ap (λ v. old ++ v) (sym (below_more needs k i (sym c.is_kept.ensures ∙ w.if-is_kept.true)))
      | else-is_kept w ↦ ap (λ r. r.items) w.recipes-is ∙ c.loop-missing.invariant ∙ ap (λ v. old ++ v)
          (sym (below_same needs k i (sym c.is_kept.ensures ∙ w.if-is_kept.false)))
    ]

pub returns : goal.returns
returns c =
    c.loop-missing.invariant ∙
    (let e : c.loop-missing.missing ≡ c.args.last = omega arith in
    ap (λ i. c.args.recipes.now.items ++ holes_below (needs_in c.args.order.now) c.args.last i) e)
