-- A scene with more picks.
use Rattle.std.proofs.Common.{◌≡◌, ℕ, Bool, true, false, List}
use Rattle.std.specs.Prelude.{Result, Ok, Err, IfOk}
use Rattle.cs_inputs.specs.Scenes.{IsSceneWith}
use Rattle.cs_inputs.specs.declared.inputs.Inputs.{Inputs}
use Rattle.cs_plan.specs.Scenes.{Scene}
use Rattle.cs_list.specs.Listings.{IsSceneIf}

pub listed_with : {E : Type 0} (inputs : Inputs) (asked : Bool) (more : List (List ℕ)) (r : Result Scene E) → asked ≡ true
    → IfOk r (IsSceneWith inputs more) → IfOk r (IsSceneIf asked inputs)
listed_with inputs true more (Ok scene) e h = (more, h)
listed_with inputs true more (Err fault) e h = tt
listed_with inputs false more r e h = absurd (cc)
