-- What a fault blames.
use Rattle.std.specs.Prelude.{⊤}
use Rattle.cs_stream.specs.declared.stream.Counts.{Counts}
use Rattle.cs_stream.specs.Streams.{BlamesReads, BlamesWrites}
use Rattle.cs_inputs.specs.declared.fault.ProgramFault.{ProgramFault}
use Rattle.cs_inputs.specs.declared.fault.ProgramFault.TheVariants.{Input, Output}

-- a failed input is due to the reads of a stream, and a failed output to its writes, by its counts
abbrev pub Blames : Counts → Counts → ProgramFault → Type 0
Blames old new Input = BlamesReads old new
Blames old new Output = BlamesWrites old new
Blames old new fault = ⊤

-- the same if nothing was read
abbrev pub BlamesOutput : Counts → Counts → ProgramFault → Type 0
BlamesOutput old new Input = ⊥
BlamesOutput old new fault = Blames old new fault

-- the fault is of no stream
abbrev pub IsOfNoStream : ProgramFault → Type 0
IsOfNoStream Input = ⊥
IsOfNoStream Output = ⊥
IsOfNoStream fault = ⊤
