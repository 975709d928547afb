use Rattle.std.proofs.Common.{arith, ap, sym, ◌∙◌, ◌+◌, ◌≡◌, ◌++◌, map, ◌∷◌, []}
use Rattle.std.specs.List.{range_with_len}
use Rattle.cs_plan.specs.Plans.{prefixes}
use Rattle.cs_plan.specs.declared.recipe.Recipe.TheVariants.{Prefix}
use Rattle.cs_plan.proofs.Listed.{prefixes_more, push_after}
use Rattle.cs_plan.proofs.families.push_prefixes.Goals as goal

pub loop-end-preserved : goal.loop-end-preserved
loop-end-preserved c =
    push_after c.push.new.self.items c.loop-end.recipes.items c.args.recipes.now.items (map Prefix (range_with_len 0 c.loop-end.end))
    (Prefix c.loop-end.end ∷ []) c.in_ok-push.ensures.items c.loop-end.invariant
    ∙ ap (λ v. c.args.recipes.now.items ++ v) (sym (prefixes_more c.loop-end.end))

pub returns : goal.returns
unfolding prefixes
returns c =
    c.loop-end.invariant ∙
    (let e : c.loop-end.end ≡ c.args.count + 1 = omega arith in ap (λ k. c.args.recipes.now.items ++ map Prefix (range_with_len 0 k)) e)
