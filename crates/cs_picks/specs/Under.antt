-- What is printed of the sets that a file system of another profile may leave too.
use Rattle.std.specs.Prelude.{◌≡◌, ◌<◌, ◌≤◌, ℕ, List, length, Option}
use Rattle.std.specs.Io.KnownBytes.{Appends}
use Rattle.std.specs.List.{Contains}
use Rattle.cs_apm.specs.Profiles.{profiles_in}
use Rattle.cs_plan.specs.Scenes.{Scene, micros_of}
use Rattle.cs_trace_lines.specs.declared.profile.Profile.{Profile}
use Rattle.cs_different.specs.Members.{AreAll, IsMember}
use Rattle.cs_different.specs.Under.{AreDifferentUnder, every_under}
use Rattle.cs_different.specs.declared.classes.TheConstants.{CLASSES}
use Rattle.cs_every.specs.declared.fault.EveryFault.{EveryFault}
use Rattle.cs_every.specs.declared.fault.EveryFault.TheVariants.{More, TooMany, TooManyClasses}
use Rattle.cs_every.specs.declared.fault.EveryFault.TheVariants.{Memory, Output}
use Rattle.cs_every.specs.Texts.{picks_text}

-- known bytes grow by such sets, which are no more than that many
pub record WritesThose (Are : List (List ℕ) → Type 0) (most : ℕ) (old new : Option (List ℕ))
    : Type 0 where
  pub sets : List (List ℕ)
  pub are : Are sets
  pub few : length sets ≤ most
  pub written : Appends old new (picks_text sets)

-- known bytes grow by all sets that a crash and a file system of the profile may leave
abbrev pub WritesMembers : Scene → Profile → ℕ → Option (List ℕ) → Option (List ℕ) → Type 0
WritesMembers s profile most old new =
    WritesThose (AreAll (IsMember s profile)) most old new

-- known bytes grow by the sets that differ, of those that a crash and a file system of the profile
-- may leave
abbrev pub WritesDifferentUnder : Scene → Profile → ℕ → Option (List ℕ) → Option (List ℕ) → Type 0
WritesDifferentUnder s profile most old new =
    WritesThose (AreDifferentUnder s profile) most old new

-- why not all of these sets are written
abbrev pub IsTooMany : Scene → Profile → ℕ → EveryFault → Type 0
IsTooMany s profile most (More bound) = (bound ≡ most)
    × ((sets : List (List ℕ)) × (AreAll (IsMember s profile) sets × (most < length sets)))
IsTooMany s profile most TooMany = ⊥
IsTooMany s profile most TooManyClasses = ⊥
IsTooMany s profile most Memory = Unit {0}
IsTooMany s profile most Output = Unit {0}

-- why not those of all sets that differ are written: if there are too many classes, there are more
-- sets than classes are followed
abbrev pub IsUncomparedOf : (List (List ℕ) → Type 0) → List (List ℕ) → ℕ → EveryFault → Type 0
IsUncomparedOf Are all most (More bound) = (bound ≡ most)
    × ((sets : List (List ℕ)) × (Are sets × (most < length sets)))
IsUncomparedOf Are all most TooMany = ⊥
IsUncomparedOf Are all most TooManyClasses = CLASSES < length all
IsUncomparedOf Are all most Memory = Unit {0}
IsUncomparedOf Are all most Output = Unit {0}

-- of all sets that the rules of the profile and of the trace allow
abbrev pub IsUncomparedUnder : Scene → Profile → ℕ → EveryFault → Type 0
IsUncomparedUnder s profile most =
    IsUncomparedOf (AreDifferentUnder s profile) (every_under s profile) most

-- the trace is of a version that has the profile
abbrev pub IsKnown : Scene → Profile → Type 0
IsKnown s profile = Contains (profiles_in (micros_of s).version) profile
