-- What a command has written, by the status with which it ended.
use Rattle.std.specs.Prelude.{◌≡◌, ◌⊎◌, ℕ, zero, suc, List, Option, Result, Ok, Err}
use Rattle.std.specs.Io.KnownBytes.{Appends, Keeps}
use Rattle.cs_plan.specs.Scenes.{Scene}
use Rattle.cs_stream.specs.Streams.{AppendsFront}
use Rattle.cs_inputs.specs.Scenes.{IsScene}
use Rattle.cs_inputs.specs.declared.inputs.Inputs.{Inputs}

-- the status 0 reports that all was done, any other one a fault
abbrev pub reported : ℕ → Result (Unit {0}) (Unit {0})
reported zero = Ok tt
reported (suc status) = Err tt

-- a text that has a property was written; or after a fault nothing, or some of such a text from the
-- front
abbrev pub WritesSuch : {E : Type 0} → (List ℕ → Type 0) → Result (Unit {0}) E → Option (List ℕ)
    → Option (List ℕ) → Type 0
WritesSuch P (Ok done) old new = (text : List ℕ) × P text × Appends old new text
WritesSuch P (Err fault) old new =
    Keeps old new ⊎ ((text : List ℕ) × P text × AppendsFront old new text)

-- the text is that of the inputs' scene
pub record IsTextOf (inputs : Inputs) (text_of : Scene → List ℕ) (text : List ℕ) : Type 0 where
  pub scene : Scene
  pub is_scene : IsScene inputs scene
  pub spelled : text ≡ text_of scene
