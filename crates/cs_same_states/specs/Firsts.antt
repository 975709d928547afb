-- The first states with equal trees.
use Rattle.std.specs.Prelude.{◌≡◌, ◌<◌, ◌≤◌, ℕ, List, length, slice_index}
use Rattle.cs_plan.specs.Scenes.{Scene, state_at}

-- the state of the one number has the tree of the other, and isn't after it
pub record IsSame (s : Scene) (number first : ℕ) : Type 0 where
  pub before : first ≤ number
  pub equal : state_at s first ≡ state_at s number

-- for each state of the plan one with the same tree, which isn't after it
pub record AreFirsts (s : Scene) (firsts : List ℕ) : Type 0 where
  pub long : length firsts ≡ length s.plan
  pub each : (number : ℕ) → number < length firsts → IsSame s number (slice_index firsts number)
