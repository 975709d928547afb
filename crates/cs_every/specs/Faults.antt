-- Why sets aren't printed, counted or drawn.
use Rattle.std.specs.Prelude.{ℕ, ◌≤◌, ◌^◌, ◌⊎◌, Bool, length}
use Rattle.cs_sets.specs.Counting.{HasManyFutures}
use Rattle.cs_sets.specs.Every.{every}
use Rattle.cs_sets.specs.declared.count.TheConstants.{FUTURES}
use Rattle.cs_every.specs.declared.fault.EveryFault.{EveryFault}
use Rattle.cs_every.specs.declared.fault.EveryFault.TheVariants.{Memory, More, Output, TooMany, TooManyClasses}

-- memory ran out, or the output failed
abbrev pub IsOutside : EveryFault → Type 0
IsOutside (More most) = ⊥
IsOutside TooMany = ⊥
IsOutside TooManyClasses = ⊥
IsOutside Memory = Unit {0}
IsOutside Output = Unit {0}

-- or the sets can't be counted
abbrev pub IsUncounted : (ℕ → ℕ → Bool) → ℕ → EveryFault → Type 0
IsUncounted needs n (More most) = ⊥
IsUncounted needs n TooMany = HasManyFutures needs n FUTURES
IsUncounted needs n TooManyClasses = ⊥
IsUncounted needs n Memory = Unit {0}
IsUncounted needs n Output = Unit {0}

-- or there are too many to draw one
abbrev pub IsUndrawn : (ℕ → ℕ → Bool) → ℕ → EveryFault → Type 0
IsUndrawn needs n (More most) = ⊥
IsUndrawn needs n TooMany = HasManyFutures needs n FUTURES ⊎ (2 ^ 64 ≤ length (every needs n))
IsUndrawn needs n TooManyClasses = ⊥
IsUndrawn needs n Memory = Unit {0}
IsUndrawn needs n Output = Unit {0}
