-- The scene of a server, and its runs.
use Rattle.std.specs.Prelude.{◌≡◌, ℕ, List, Some}
use Rattle.cs_plan.specs.Scenes.{IsPlan, Scene, order_in, state_at}
use Rattle.cs_tree_model.specs.Tree.{Tree}
use Rattle.cs_users.specs.Rows.{Row}

-- which runs a server may have: under a number, over a tree, and with a list of users
abbrev pub HasRuns : Type 1
HasRuns = ℕ → Tree → List Row → Type 0

-- which lists of users a server may load
abbrev pub LoadsUsers : Type 1
LoadsUsers = List Row → Type 0

-- the scene's plan is one of its order: a crash may leave each of its states
abbrev pub IsPlanned : Scene → Type 0
IsPlanned scene = IsPlan (order_in scene) scene.plan

-- the users may be those of runs over the tree under the number
abbrev pub ServesEach : HasRuns → LoadsUsers → ℕ → Tree → Type 0
ServesEach serves loads number tree = (users : List Row) → loads users → serves number tree users

-- it may have runs over each state of the scene, which is planned, under its number, with each list
-- of users that it may load
abbrev pub ServesAll : HasRuns → LoadsUsers → Scene → Type 0
ServesAll serves loads scene =
    IsPlanned scene → (number : ℕ) (tree : Tree) → state_at scene number ≡ Some tree
    → ServesEach serves loads number tree

-- a run is over the state of a number in some scene that is planned; its users may be any
abbrev pub IsStateOfSome : HasRuns
IsStateOfSome number tree users =
    (scene : Scene) × IsPlanned scene × (state_at scene number ≡ Some tree)

-- no other scene may be the server's
abbrev pub IsOnly : (Scene → Type 0) → Scene → Type 0
IsOnly is_scene scene = (other : Scene) → is_scene other → other ≡ scene
