-- What a fault blames, over several calls.
use Rattle.cs_stream.specs.declared.stream.Counts.{Counts}
use Rattle.cs_stream.specs.Streams.{KeepsFaults}
use Rattle.cs_stream.proofs.Counting.{blames_writes}
use Rattle.cs_inputs.specs.declared.fault.ProgramFault.{ProgramFault}
use Rattle.cs_inputs.specs.declared.fault.ProgramFault.TheVariants.{TraceNotText, Trace, Users, Picks, Scene, Script, Listen, Publishing}
use Rattle.cs_inputs.specs.declared.fault.ProgramFault.TheVariants.{Input, Output, Memory}
use Rattle.cs_inputs.specs.Written.{Blames, BlamesOutput, IsOfNoStream}

-- a fault of no stream blames none
pub blames_none : (old new : Counts) (fault : ProgramFault) → IsOfNoStream fault → Blames old new fault
blames_none old new TraceNotText h = tt
blames_none old new (Trace x) h = tt
blames_none old new (Users x) h = tt
blames_none old new (Picks x) h = tt
blames_none old new (Scene x) h = tt
blames_none old new (Script x) h = tt
blames_none old new Listen h = tt
blames_none old new Publishing h = tt
blames_none old new Input h = absurd h
blames_none old new Output h = absurd h
blames_none old new Memory h = tt

pub output_none : (old new : Counts) (fault : ProgramFault) → IsOfNoStream fault → BlamesOutput old new fault
output_none old new TraceNotText h = tt
output_none old new (Trace x) h = tt
output_none old new (Users x) h = tt
output_none old new (Picks x) h = tt
output_none old new (Scene x) h = tt
output_none old new (Script x) h = tt
output_none old new Listen h = tt
output_none old new Publishing h = tt
output_none old new Input h = absurd h
output_none old new Output h = absurd h
output_none old new Memory h = tt

-- an output that failed later failed since
pub output_later : (a b c : Counts) (fault : ProgramFault) → KeepsFaults a b → BlamesOutput b c fault → BlamesOutput a c fault
output_later a b c TraceNotText p h = tt
output_later a b c (Trace x) p h = tt
output_later a b c (Users x) p h = tt
output_later a b c (Picks x) p h = tt
output_later a b c (Scene x) p h = tt
output_later a b c (Script x) p h = tt
output_later a b c Listen p h = tt
output_later a b c Publishing p h = tt
output_later a b c Input p h = h
output_later a b c Output p h = blames_writes a b c p h
output_later a b c Memory p h = tt

pub blames_output : (a b : Counts) (fault : ProgramFault) → BlamesOutput a b fault → Blames a b fault
blames_output a b TraceNotText h = tt
blames_output a b (Trace x) h = tt
blames_output a b (Users x) h = tt
blames_output a b (Picks x) h = tt
blames_output a b (Scene x) h = tt
blames_output a b (Script x) h = tt
blames_output a b Listen h = tt
blames_output a b Publishing h = tt
blames_output a b Input h = absurd h
blames_output a b Output h = h
blames_output a b Memory h = tt
