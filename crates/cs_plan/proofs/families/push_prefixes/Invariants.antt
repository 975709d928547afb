use Rattle.std.proofs.Common.{◌≡◌, ◌++◌, map}
use Rattle.std.specs.List.{range_with_len}
use Rattle.cs_plan.specs.declared.recipe.Recipe.TheVariants.{Prefix}
use Rattle.cs_plan.proofs.families.push_prefixes.Given as goal

abbrev pub invariant-loop-end : goal.invariant-loop-end
invariant-loop-end l = l.recipes.items ≡ l.initial.recipes.items ++ map Prefix (range_with_len 0 l.end)
