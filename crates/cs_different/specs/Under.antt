-- Those of the sets of a profile that differ.
use Rattle.std.specs.Prelude.{◌≡◌, ◌⊎◌, ◌<◌, ℕ, List, length}
use Rattle.cs_plan.specs.Scenes.{Scene}
use Rattle.cs_sets.specs.Every.{every}
use Rattle.cs_sets.specs.Orders.{needs_in}
use Rattle.cs_trace_lines.specs.declared.profile.Profile.{Profile}
use Rattle.cs_different.specs.FirstSets.{AreFirstSets}
use Rattle.cs_different.specs.Members.{IsMember, order_under}
use Rattle.cs_different.specs.Sets.{LeaveSame}
use Rattle.cs_different.specs.declared.classes.TheConstants.{CLASSES}
use Rattle.cs_different.specs.declared.fault.DifferentFault.{DifferentFault}
use Rattle.cs_different.specs.declared.fault.DifferentFault.TheVariants.{Memory, More, TooMany}

-- of all sets that a crash and a file system of the profile may leave, the first of those that
-- leave the same, ascending
abbrev pub AreDifferentUnder : Scene → Profile → List (List ℕ) → Type 0
AreDifferentUnder s profile sets = AreFirstSets (LeaveSame s) (IsMember s profile) sets

-- all sets that the rules of the profile and of the trace allow
abbrev pub every_under : Scene → Profile → List (List ℕ)
every_under s profile = every (needs_in (order_under s profile)) (length (order_under s profile))

-- memory ran out; or there are more of these than the classes that are followed; or more than the
-- given number of sets differ
abbrev pub IsRefusedUnder : Scene → Profile → ℕ → DifferentFault → Type 0
IsRefusedUnder s profile most fault =
    (fault ≡ Memory)
    ⊎ (((fault ≡ TooMany) × (CLASSES < length (every_under s profile)))
    ⊎ ((fault ≡ More most)
    × ((sets : List (List ℕ)) × (AreDifferentUnder s profile sets × (most < length sets)))))
