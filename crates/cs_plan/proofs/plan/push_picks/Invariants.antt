use Rattle.std.proofs.Common.{◌≡◌, ◌++◌, map}
use Rattle.cs_plan.specs.declared.recipe.Recipe.TheVariants.{Pick}
use Rattle.cs_plan.proofs.plan.push_picks.Given as goal

abbrev pub invariant-loop-pick : goal.invariant-loop-pick
invariant-loop-pick l = l.recipes.items ≡ l.initial.recipes.items ++ map Pick l.yielded
