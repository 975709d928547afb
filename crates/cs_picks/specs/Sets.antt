-- What is printed of the sets that a crash may leave.
use Rattle.std.specs.Prelude.{◌≡◌, ℕ, ◌<◌, ◌≤◌, List, length, Option}
use Rattle.std.specs.Io.KnownBytes.{Appends}
use Rattle.cs_sets.specs.Orders.{needs_in}
use Rattle.cs_plan.specs.Scenes.{Scene, order_in}
use Rattle.cs_sets.specs.Every.{every}
use Rattle.cs_different.specs.Sets.{AreDifferent}
use Rattle.cs_different.specs.declared.fault.DifferentFault.{DifferentFault}
use Rattle.cs_different.specs.declared.fault.DifferentFault.TheVariants as compared
use Rattle.cs_every.specs.declared.fault.EveryFault.{EveryFault}
use Rattle.cs_every.specs.declared.fault.EveryFault.TheVariants.{More, TooMany, TooManyClasses}
use Rattle.cs_every.specs.declared.fault.EveryFault.TheVariants.{Memory, Output}
use Rattle.cs_every.specs.Drawn.{WritesSample}
use Rattle.cs_every.specs.Faults.{IsOutside, IsUncounted, IsUndrawn}
use Rattle.cs_every.specs.Texts.{count_text, picks_text}
use Rattle.cs_inputs.specs.Scenes.{IsScene}
use Rattle.cs_inputs.specs.declared.inputs.Inputs.{Inputs}
use Rattle.cs_picks.specs.Families.{family_in}
use Rattle.cs_picks.specs.declared.sets.PickSets.{PickSets}
use Rattle.cs_picks.specs.declared.sets.PickSets.TheVariants.{Of, Every, EveryUnder}
use Rattle.cs_picks.specs.declared.sets.PickSets.TheVariants.{Different, DifferentUnder}
use Rattle.cs_picks.specs.declared.sets.PickSets.TheVariants.{Count, Sample}
use Rattle.cs_picks.specs.Under.{IsKnown, IsTooMany, IsUncomparedOf, IsUncomparedUnder}
use Rattle.cs_picks.specs.Under.{WritesDifferentUnder, WritesMembers}

-- all sets that a crash may leave, ascending
abbrev pub every_in : Scene → List (List ℕ)
every_in s = every (needs_in (order_in s)) (length (order_in s))

-- known bytes grow by the sets that differ, if they are no more than that many
pub record WritesDifferent (s : Scene) (most : ℕ) (old new : Option (List ℕ)) : Type 0 where
  pub sets : List (List ℕ)
  pub different : AreDifferent s sets
  pub few : length sets ≤ most
  pub written : Appends old new (picks_text sets)

-- known bytes grow by what is asked for of a scene's sets
abbrev pub WritesSets : Scene → PickSets → Option (List ℕ) → Option (List ℕ) → Type 0
WritesSets s (Of family) old new = Appends old new (picks_text (family_in s family))
WritesSets s (Every most) old new = (length (every_in s) ≤ most)
    × Appends old new (picks_text (every_in s))
WritesSets s (EveryUnder profile most) old new = WritesMembers s profile most old new
WritesSets s (Different most) old new = WritesDifferent s most old new
WritesSets s (DifferentUnder profile most) old new = WritesDifferentUnder s profile most old new
WritesSets s Count old new = Appends old new (count_text (length (every_in s)))
WritesSets s (Sample seed count) old new = WritesSample (every_in s) count old new

-- the trace is of a version that has the profile that is asked for, if one is
abbrev pub IsAsked : Scene → PickSets → Type 0
IsAsked s (EveryUnder profile most) = IsKnown s profile
IsAsked s (DifferentUnder profile most) = IsKnown s profile
IsAsked s _ = Unit {0}

-- the scene is that of the inputs
abbrev pub PrintsSets : Inputs → PickSets → Option (List ℕ) → Option (List ℕ) → Type 0
PrintsSets inputs sets old new =
    (s : Scene) × IsScene inputs s × (IsAsked s sets × WritesSets s sets old new)

-- the fault of the same name
abbrev pub fault_of_different : DifferentFault → EveryFault
fault_of_different (compared.More most) = More most
fault_of_different compared.TooMany = TooManyClasses
fault_of_different compared.Memory = Memory

-- why the sets that differ are not written
abbrev pub IsUncompared : Scene → ℕ → EveryFault → Type 0
IsUncompared s most = IsUncomparedOf (AreDifferent s) (every_in s) most

-- why not all is written that is asked for
abbrev pub IsRefused : Scene → PickSets → EveryFault → Type 0
IsRefused s (Of family) fault = IsOutside fault
IsRefused s (Every most) (More bound) = (bound ≡ most) × (most < length (every_in s))
IsRefused s (Every most) TooMany = ⊥
IsRefused s (Every most) TooManyClasses = ⊥
IsRefused s (Every most) Memory = Unit {0}
IsRefused s (Every most) Output = Unit {0}
IsRefused s (EveryUnder profile most) fault = IsTooMany s profile most fault
IsRefused s (Different most) fault = IsUncompared s most fault
IsRefused s (DifferentUnder profile most) fault = IsUncomparedUnder s profile most fault
IsRefused s Count fault = IsUncounted (needs_in (order_in s)) (length (order_in s)) fault
IsRefused s (Sample seed count) fault = IsUndrawn (needs_in (order_in s)) (length (order_in s))
    fault
