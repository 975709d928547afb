use Rattle.std.proofs.Common.{◌≡◌, ◌++◌, map, take}
use Rattle.std.specs.Prelude.{slice_index_or}
use Rattle.cs_apm.specs.States.{no_record}
use Rattle.cs_apm.specs.States.{rights_of}
use Rattle.cs_apm.proofs.rights.push_starts.Given as goal

abbrev pub invariant-loop-place : goal.invariant-loop-place
invariant-loop-place l =
    l.table.items ≡ l.fn.table.items ++ map (λ place. rights_of (slice_index_or l.records place no_record).1) (take l.place-index l.places)
