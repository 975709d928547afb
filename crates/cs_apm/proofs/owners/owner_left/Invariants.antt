use Rattle.std.proofs.Common.{◌≡◌, take}
use Rattle.std.specs.Prelude.{slice_index_or}
use Rattle.cs_apm.specs.Owners.{owner_left}
use Rattle.cs_apm.specs.States.{no_rights}
use Rattle.cs_apm.proofs.owners.owner_left.Given as goal

abbrev pub invariant-loop-place : goal.invariant-loop-place
invariant-loop-place l = l.owner ≡ owner_left l.file (slice_index_or l.owners l.file no_rights) l.ops (take l.place-index l.places)
