-- What is printed of a scene: its micro-operations, and its states.
use Rattle.std.specs.Prelude.{ℕ, List, ◌++◌, codes, decimal, length, slice_index_or}
use Rattle.std.specs.List.{flat_map}
use Rattle.cs_micro.specs.declared.micro_op.MicroOp.{MicroOp}
use Rattle.cs_micro.specs.Texts.{op_text}
use Rattle.cs_apm.specs.Rules.{op_at}
use Rattle.cs_plan.specs.Plans.{places_below, set_in}
use Rattle.cs_plan.specs.Scenes.{Scene, micros_of, order_in, says_of}
use Rattle.cs_plan.specs.Texts.{recipe_text}
use Rattle.cs_plan.specs.declared.recipe.Recipe.{Recipe}
use Rattle.cs_plan.specs.declared.recipe.Recipe.TheVariants.{Prefix}

-- `op`, its place, and what it is
abbrev pub op_line : List MicroOp → ℕ → List ℕ
op_line ops place =
    codes "op " ++ (decimal place ++ (codes " " ++ (op_text (op_at ops place) ++ codes "\n")))

unfoldable pub op_lines : List MicroOp → List ℕ
op_lines ops = flat_map (op_line ops) (places_below (length ops))

-- the recipe of a number of the plan
abbrev pub recipe_at : Scene → ℕ → Recipe
recipe_at s number = slice_index_or s.plan number (Prefix 0)

-- how many acknowledged lines its state has
abbrev pub says_by : Scene → Recipe → ℕ
says_by s recipe = says_of (micros_of s).ops (set_in (order_in s) recipe)

-- `state`, its number, its recipe, and how many acknowledged lines it has
abbrev pub state_line : Scene → ℕ → List ℕ
state_line s number =
    codes "state "
    ++ (decimal number
    ++ (codes " "
    ++ (recipe_text (recipe_at s number)
    ++ (codes " says " ++ (decimal (says_by s (recipe_at s number)) ++ codes "\n")))))

unfoldable pub state_lines : Scene → List ℕ
state_lines s = flat_map (state_line s) (places_below (length s.plan))

abbrev pub list_text : Scene → List ℕ
list_text s = op_lines (micros_of s).ops ++ state_lines s
