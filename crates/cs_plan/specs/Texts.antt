-- What is printed of a recipe.
use Rattle.std.specs.Prelude.{ℕ, List, [], ◌∷◌, ◌++◌, codes, decimal}
use Rattle.std.specs.List.{flat_map}
use Rattle.cs_plan.specs.declared.recipe.Recipe.{Recipe}
use Rattle.cs_plan.specs.declared.recipe.Recipe.TheVariants.{Prefix, Hole, Pick}

-- with commas between, and a dash for none
abbrev pub places_text : List ℕ → List ℕ
places_text [] = codes "-"
places_text (place ∷ places) = decimal place ++ flat_map (λ k. codes "," ++ decimal k) places

abbrev pub recipe_text : Recipe → List ℕ
recipe_text (Prefix k) = codes "prefix " ++ decimal k
recipe_text (Hole i j) = codes "hole " ++ (decimal i ++ (codes " " ++ decimal j))
recipe_text (Pick places) = codes "pick " ++ places_text places
