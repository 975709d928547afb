-- What the registry's lock protects, and what is found under it.
use Rattle.std.specs.Prelude.{◌≡◌, ℕ, All, List, Some, Result, Ok, Err}
use Rattle.cs_plan.specs.Scenes.{Scene}
use Rattle.cs_registry.specs.Finds.{Finds}
use Rattle.cs_registry.specs.Keys.{Key}
use Rattle.cs_registry.specs.Registries.{Registry}
use Rattle.cs_registry.specs.Runs.{held_at}
use Rattle.cs_permit.specs.declared.fault.FindFault.{FindFault}
use Rattle.cs_permit.specs.declared.fault.FindFault.TheVariants.{Memory}
use Rattle.cs_registry.specs.declared.found.Found.{Found}
use Rattle.cs_tree_model.specs.Tree.{Tree}
use Rattle.cs_users.specs.Rows.{Row}

-- Of a shared run contracts see its key, which is its key in the registry.
abbrev pub IsKeyed : Key × Found Key → Type 0
IsKeyed run = run.1.held ≡ run.0

-- a registry is of the server's scene, and each run has its key there
pub record IsOfServer (is_scene : Scene → Type 0) (registry : Registry Key) : Type 0 where
  pub scene : is_scene registry.scene
  pub keyed : All IsKeyed registry.runs

-- a new shared run has its key
abbrev pub is_fresh : Key → Tree → List Row → Key → Type 0
is_fresh key tree users shared = shared ≡ key

-- a refusal is passed on; otherwise a handle of the run at the place is returned, or an allocation
-- fails
abbrev pub IsHandle : Registry Key → Result ℕ FindFault → Result Key FindFault → Type 0
IsHandle new (Err fault) answer = answer ≡ Err fault
IsHandle new (Ok place) (Ok shared) = held_at new.runs place ≡ Some shared
IsHandle new (Ok place) (Err fault) = fault ≡ Memory

-- what is found is the run of the key
pub record FindsShared (old : Registry Key) (key : Key) (answer : Result Key FindFault)
    (new : Registry Key) : Type 0 where
  pub place : Result ℕ FindFault
  pub found : Finds is_fresh old key place new
  pub handle : IsHandle new place answer
