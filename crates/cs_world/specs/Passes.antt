-- The passes that a run gave, in the order of their numbers.
use Rattle.std.specs.Prelude.{◌≡◌, ℕ, List, length, slice_get, Some}
use Rattle.cs_journal.specs.Runs.{Fits, PassOf, RunOf}

-- each pass that the run gave is at the place of its number, and fits the run
pub record AreOf (run : RunOf) (passes : List PassOf) : Type 0 where
  pub all : length passes ≡ run.passes
  pub numbered : (number : ℕ) (pass : PassOf) → slice_get passes number ≡ Some pass
      → pass.number ≡ number
  pub fit : (number : ℕ) (pass : PassOf) → slice_get passes number ≡ Some pass → Fits run pass
