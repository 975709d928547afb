-- Why not the sets that differ are written.
use Rattle.std.proofs.Common.{◌≡◌, ◌⊎◌, ◌<◌, ℕ, List, length, sym, subst, ⊎_elim, refl}
use Rattle.cs_different.specs.declared.classes.TheConstants.{CLASSES}
use Rattle.cs_different.specs.declared.fault.DifferentFault.{DifferentFault}
use Rattle.cs_different.specs.declared.fault.DifferentFault.TheVariants.{Memory, More, TooMany}
use Rattle.cs_every.specs.Faults.{IsOutside}
use Rattle.cs_every.specs.declared.fault.EveryFault.{EveryFault}
use Rattle.cs_every.specs.declared.fault.EveryFault.TheVariants as faults
use Rattle.cs_picks.specs.Sets.{fault_of_different}
use Rattle.cs_picks.specs.Under.{IsUncomparedOf}

-- the fault of the same name as that of the comparison
pub compared_fault : (Are : List (List ℕ) → Type 0) (all : List (List ℕ)) (most : ℕ) (given : DifferentFault) (fault : EveryFault)
    → fault ≡ fault_of_different given
    → (given ≡ Memory) ⊎ (((given ≡ TooMany) × (CLASSES < length all))
    ⊎ ((given ≡ More most) × ((sets : List (List ℕ)) × (Are sets × (most < length sets)))))
    → IsUncomparedOf Are all most fault
compared_fault Are all most given fault e refused = subst (IsUncomparedOf Are all most) (sym e) (⊎_elim
    (λ (m : given ≡ Memory). subst (λ v. IsUncomparedOf Are all most (fault_of_different v)) (sym m) tt)
    (λ (other : ((given ≡ TooMany) × (CLASSES < length all))
    ⊎ ((given ≡ More most) × ((sets : List (List ℕ)) × (Are sets × (most < length sets))))). ⊎_elim
    (λ (many : (given ≡ TooMany) × (CLASSES < length all)).
    subst (λ v. IsUncomparedOf Are all most (fault_of_different v)) (sym many.0) many.1)
    (λ (more : (given ≡ More most) × ((sets : List (List ℕ)) × (Are sets × (most < length sets)))).
    subst (λ v. IsUncomparedOf Are all most (fault_of_different v)) (sym more.0) (refl, more.1))
    other)
    refused)

-- memory ran out, or the output failed
pub outside_fault : (P : EveryFault → Type 0) → P faults.Memory → P faults.Output → (fault : EveryFault) → IsOutside fault → P fault
outside_fault P memory output (faults.More bound) h = absurd h
outside_fault P memory output faults.TooMany h = absurd h
outside_fault P memory output faults.TooManyClasses h = absurd h
outside_fault P memory output faults.Memory h = memory
outside_fault P memory output faults.Output h = output
