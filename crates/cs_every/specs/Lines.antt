-- The text of the places of a set, and where that of each starts.
use Rattle.std.specs.Prelude.{◌≡◌, ℕ, ◌<◌, Bool, true, List, length, slice_index}
use Rattle.cs_sets.specs.Following.{chosen}
use Rattle.cs_every.specs.Texts.{others_text}

-- a comma and the number of each place before one that passes the test
unfoldable pub text_before : (ℕ → Bool) → ℕ → List ℕ
text_before has end = others_text (chosen has end)

-- the text of the places before one, and where that of each of them starts
pub record IsText (starts text : List ℕ) (has : ℕ → Bool) (end : ℕ) : Type 0 where
  pub whole : text ≡ text_before has end
  pub each : (k : ℕ) → k < end → has k ≡ true → slice_index starts k ≡ length (text_before has k)
