-- The fault of a count as one of printing.
use Rattle.cs_sets.specs.declared.fault.CountFault.{CountFault}
use Rattle.cs_sets.specs.declared.fault.CountFault.TheVariants as counts
use Rattle.cs_every.specs.declared.fault.EveryFault.{EveryFault}
use Rattle.cs_every.specs.declared.fault.EveryFault.TheVariants.{Memory, TooMany}

-- the one of the same name
abbrev pub of_count : CountFault → EveryFault
of_count counts.TooMany = TooMany
of_count counts.Memory = Memory
