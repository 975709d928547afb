use Rattle.std.proofs.Common.{◌≡◌, ◌++◌, map, take}
use Rattle.std.specs.Prelude.{slice_index_or}
use Rattle.cs_apm.specs.States.{no_record}
use Rattle.cs_apm.specs.States.{directories_made, rights_of}
use Rattle.cs_apm.proofs.rights.directories_of.Given as goal

abbrev pub invariant-loop-op : goal.invariant-loop-op
invariant-loop-op l =
    l.directories.items ≡ map (λ place. rights_of (slice_index_or l.records place no_record).1) l.places ++ directories_made
    (take l.op-index l.ops)
