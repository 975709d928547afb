use Rattle.std.proofs.Common.{◌≡◌, ◌++◌, ℕ, List, ap, ◌∙◌}
use Rattle.std.proofs.lemmas.Result.{IfOk-weaker}
use Rattle.std.specs.Prelude.{codes, decimal, string_bytes}
use Rattle.cs_list.specs.Json.{recipe_fields, state_line}
use Rattle.cs_list.specs.Profiles.{array_of}
use Rattle.cs_list.proofs.json.state_line.Goals as goal

pub returns : goal.returns
returns c =
    let a = c.args in
    let fields = recipe_fields a.recipe.now in
    let line : List ℕ → List ℕ = λ array.
    codes "{\"state\":"
    ++ (decimal a.number
    ++ (codes ","
    ++ (fields
    ++ (codes ",\"says\":"
    ++ (decimal a.says
    ++ (codes ",\"same\":" ++ (decimal a.first ++ (codes ",\"profiles\":" ++ (array ++ codes "}\n")))))))))
    in
    let array : List ℕ = c.array-array.result.now in
    let same : array ≡ array_of a.profiles = c.array-array.ensures in
    IfOk-weaker c.format.result (λ t. string_bytes t ≡ line array)
    (λ t. string_bytes t ≡ state_line a.number a.recipe.now a.says a.first a.profiles) (λ t e. e ∙ ap line same) c.format.ensures.ok
