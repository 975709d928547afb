-- What a script prints: what its lines print, one after the other, on a new world.
use Rattle.std.specs.Prelude.{◌≡◌, ◌⊎◌, true, ℕ, zero, suc, List, ◌++◌, length, replicate, Option}
use Rattle.std.specs.Prelude.{Result, Ok, Err}
use Rattle.std.specs.Io.KnownBytes.{Appends, Consumes, IsAtEnd, Keeps}
use Rattle.cs_plan.specs.Scenes.{Scene}
use Rattle.cs_users.specs.Reading.{users_in}
use Rattle.cs_users.specs.Rows.{Row}
use Rattle.cs_world.specs.Worlds.{World, new_world}
use Rattle.cs_inputs.specs.Scenes.{IsScene}
use Rattle.cs_inputs.specs.declared.inputs.Inputs.{Inputs}
use Rattle.cs_script.specs.declared.script.ScriptLine.{ScriptLine}
use Rattle.cs_script.specs.Printed.{PrintsAll}
use Rattle.cs_registry.specs.Publishing.{with_published}
use Rattle.cs_script.specs.Scripts.{script_in}
use Rattle.cs_stream.specs.Streams.{AppendsFront}

-- with the states of the numbers below this one published
abbrev pub with_first : World → ℕ → World
with_first w zero = w
with_first w (suc number) = record (with_first w number) {
  registry = with_published (with_first w number).registry number;
}

-- every state of the scene is published, and there is no run and no session
abbrev pub served_world : Scene → List Row → World
served_world scene users =
    let new = new_world scene users in
    record new { registry = record new.registry { published = replicate (length scene.plan) true } }

-- what a script begins with: its inputs' scene and users, and the lines of all bytes of its input
pub record Begins (inputs : Inputs) (came left : Option (List ℕ)) (w : World)
    (lines : List ScriptLine) : Type 0 where
  pub scene : Scene
  pub users : List Row
  pub bytes : List ℕ
  pub is_scene : IsScene inputs scene
  pub are_users : users_in inputs.users.now ≡ Ok users
  pub serves : w ≡ served_world scene users
  pub all_read : Consumes came left bytes × IsAtEnd left
  pub reads : script_in bytes ≡ Ok lines

-- lines lead there, and what they print was written
pub record RanTo (w : World) (lines : List ScriptLine) (old new : Option (List ℕ)) (w' : World)
    : Type 0 where
  pub text : List ℕ
  pub prints : PrintsAll w lines text w'
  pub written : Appends old new text

-- the first lines lead there, and of what they print some was written, from the front
pub record StoppedAt (w : World) (lines : List ScriptLine) (old new : Option (List ℕ)) (w' : World)
    : Type 0 where
  pub run : List ScriptLine
  pub unrun : List ScriptLine
  pub text : List ℕ
  pub parts : lines ≡ run ++ unrun
  pub prints : PrintsAll w run text w'
  pub written : AppendsFront old new text

-- what all lines print was written; or after a fault nothing, or some of what the first lines
-- print, from the front
abbrev pub Scripts : {E : Type 0} → Inputs → Result (Unit {0}) E → Option (List ℕ) → Option (List ℕ)
    → Option (List ℕ) → Option (List ℕ) → Type 0
Scripts inputs (Ok done) came left old new = (w w' : World) × (lines : List ScriptLine)
    × Begins inputs came left w lines × RanTo w lines old new w'
Scripts inputs (Err fault) came left old new = Keeps old new
    ⊎ ((w w' : World) × (lines : List ScriptLine)
    × Begins inputs came left w lines × StoppedAt w lines old new w')
