use Rattle.std.proofs.Common.{ap, sym, ◌∙◌, ◌++◌, map, ◌∷◌, []}
use Rattle.std.proofs.lemmas.List.{map_push}
use Rattle.cs_plan.specs.declared.recipe.Recipe.TheVariants.{Pick}
use Rattle.cs_plan.proofs.Listed.{push_after}
use Rattle.cs_plan.proofs.plan.push_picks.Goals as goal

pub loop-pick-preserved : goal.loop-pick-preserved
loop-pick-preserved c =
    push_after c.push.new.self.items c.loop-pick.recipes.items c.args.recipes.now.items (map Pick c.loop-pick.yielded)
    (Pick c.in-Some.pick ∷ []) c.in_ok-push.ensures.items c.loop-pick.invariant
    ∙ ap (λ v. c.args.recipes.now.items ++ v) (sym (map_push Pick c.loop-pick.yielded c.in-Some.pick))
