use Rattle.std.proofs.Common.{◌≡◌, take}
use Rattle.std.specs.Prelude.{slice_index_or}
use Rattle.cs_apm.specs.Owners.{directory_left}
use Rattle.cs_apm.specs.States.{no_rights}
use Rattle.cs_apm.proofs.owners.directory_left.Given as goal

abbrev pub invariant-loop-place : goal.invariant-loop-place
invariant-loop-place l = l.owner ≡ directory_left l.directory (slice_index_or l.directories l.directory no_rights) l.ops
    (take l.place-index l.places)
