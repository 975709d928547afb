-- Sets drawn at random, as lines.
use Rattle.std.specs.Prelude.{◌≡◌, ℕ, List, length, Option}
use Rattle.std.specs.Io.KnownBytes.{Appends}
use Rattle.std.specs.List.{All, Contains}
use Rattle.cs_every.specs.Texts.{picks_text}

-- so many sets of a list are written, in some order
pub record WritesSample (sets : List (List ℕ)) (count : ℕ) (old new : Option (List ℕ)) : Type 0
  where
    pub drawn : List (List ℕ)
    pub long : length drawn ≡ count
    pub members : All (Contains sets) drawn
    pub written : Appends old new (picks_text drawn)
