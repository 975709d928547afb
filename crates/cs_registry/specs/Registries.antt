-- What a registry keeps.
use Rattle.std.specs.Prelude.{◌≡◌, ◌≤◌, ℕ, Bool, false, not, count_by, is_some, List, [], length}
use Rattle.std.specs.Prelude.{map, Option, Some, replicate, slice_get, slice_index_or}
use Rattle.cs_names.specs.declared.limits.TheConstants.{RUNS}
use Rattle.cs_plan.specs.Scenes.{IsPublished, Published, Scene}
use Rattle.cs_tree_model.specs.Tree.{Tree}
use Rattle.cs_users.specs.Rows.{Row}
use Rattle.cs_registry.specs.Runs.{Runs}

-- the scene and the users, of each number of the plan whether its state is published, and the runs
pub record Registry (H : Type 0) : Type 0 where
  pub scene : Scene
  pub users : List Row
  pub published : List Bool
  pub runs : Runs H

module _ {H : Type 0} where
  -- nothing is published, and there is no run
  abbrev pub empty : Scene → List Row → Registry H
  empty scene users = record {
    scene = scene;
    users = users;
    published = replicate (length scene.plan) false;
    runs = [];
  }

  abbrev pub is_published : Registry H → ℕ → Bool
  is_published registry number = slice_index_or registry.published number false

  -- the registry with another list of users, for the runs that are made from then on
  abbrev pub with_users : Registry H → List Row → Registry H
  with_users registry users = record registry { users = users }

  -- how many states of the plan aren't published
  abbrev pub missing_of : Registry H → ℕ
  missing_of registry = count_by not registry.published

-- every state of the scene may be published under its number
abbrev pub AdmitsAll : (ℕ → Tree → Type 0) → Scene → Type 0
AdmitsAll admits scene =
    (state : Published) → IsPublished state → state.scene ≡ scene → admits state.number state.tree

-- what is stored for a registry: each state that is there is the state of its number, and may be
-- published under it
pub record IsKept {H A : Type 0} (admits : ℕ → Tree → Type 0) (scene : Scene) (tree_of : A → Tree)
    (states : List (Option A)) (missing : ℕ) (runs : Runs H) : Type 0 where
  pub each : length states ≡ length scene.plan
  pub made : (number : ℕ) (state : A) → slice_get states number ≡ Some (Some state)
      → IsPublished (record { number = number; scene = scene; tree = tree_of state })
  pub admitted : AdmitsAll admits scene
  pub left : missing ≡ count_by not (map is_some states)
  pub few : length runs ≤ RUNS
