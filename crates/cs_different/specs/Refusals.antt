-- When the sets that differ aren't found.
use Rattle.std.specs.Prelude.{◌≡◌, ◌⊎◌, ◌<◌, ℕ, List, length}
use Rattle.cs_sets.specs.Orders.{needs_in}
use Rattle.cs_plan.specs.Scenes.{Scene, order_in}
use Rattle.cs_sets.specs.Every.{every}
use Rattle.cs_different.specs.Sets.{AreDifferent}
use Rattle.cs_different.specs.declared.classes.TheConstants.{CLASSES}
use Rattle.cs_different.specs.declared.fault.DifferentFault.{DifferentFault}
use Rattle.cs_different.specs.declared.fault.DifferentFault.TheVariants.{Memory, More, TooMany}

-- memory ran out; or there are more sets than the classes that are followed; or more than the given
-- number of sets differ
abbrev pub IsRefused : Scene → ℕ → DifferentFault → Type 0
IsRefused s most fault =
    (fault ≡ Memory)
    ⊎ (((fault ≡ TooMany) × (CLASSES < length (every (needs_in (order_in s)) (length (order_in
    s)))))
    ⊎ ((fault ≡ More most) × ((sets : List (List ℕ)) × (AreDifferent s sets × (most < length
    sets)))))
