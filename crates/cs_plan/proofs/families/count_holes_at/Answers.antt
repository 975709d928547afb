use Rattle.std.proofs.Common.{arith, ap, sym, ◌∙◌, length, ◌+◌, ◌≡◌}
use Rattle.std.proofs.lemmas.List.{length_push}
use Rattle.cs_sets.specs.Orders.{needs_in}
use Rattle.cs_plan.specs.declared.recipe.Recipe.TheVariants.{Hole}
use Rattle.cs_plan.proofs.Listed.{holes_below, below_more, below_same}
use Rattle.cs_plan.proofs.families.count_holes_at.Goals.{then-is_kept, else-is_kept}
use Rattle.cs_plan.proofs.families.count_holes_at.Goals as goal

pub loop-missing-preserved : goal.loop-missing-preserved
loop-missing-preserved c =
    let needs = needs_in c.args.order.now in
    let i = c.loop-missing.missing in
    let k = c.args.last in
    elim c.if-is_kept.branch [
      | then-is_kept w ↦ record {
        so_far = w.count-is ∙ ap (λ n. n + 1) c.loop-missing.invariant.so_far ∙ sym
            (ap length (below_more needs k i (sym c.is_kept.ensures ∙ w.if-is_kept.true)) ∙ length_push (holes_below needs k i)
            (Hole i (k + 1)));
        small = omega arith;
      }
      | else-is_kept w ↦ record {
        so_far = w.count-is ∙ c.loop-missing.invariant.so_far ∙ sym
            (ap length (below_same needs k i (sym c.is_kept.ensures ∙ w.if-is_kept.false)));
        small = omega arith;
      }
    ]

pub returns : goal.returns
returns c = record {
  value = c.loop-missing.invariant.so_far ∙
      (let e : c.loop-missing.missing ≡ c.args.last = omega arith in
      ap (λ i. length (holes_below (needs_in c.args.order.now) c.args.last i)) e);
  small = omega arith;
}
