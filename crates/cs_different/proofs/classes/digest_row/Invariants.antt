use Rattle.std.proofs.Common.{◌≡◌, fold}
use Rattle.std.specs.List.{range_with_len}
use Rattle.cs_sets.specs.Bits.{has_place}
use Rattle.cs_different.specs.Classing.{with_place}
use Rattle.cs_different.specs.declared.classes.TheConstants.{NO_PLACES}
use Rattle.cs_different.proofs.classes.digest_row.Given as goal

abbrev pub invariant-loop-place : goal.invariant-loop-place
invariant-loop-place l = l.digest ≡ fold (with_place (has_place l.row)) NO_PLACES (range_with_len 0 l.place)
