use Rattle.cs_frozen.proofs.Tabling.{PlacedSoFar}
use Rattle.cs_frozen.proofs.numbering.places_of.Given as goal

abbrev pub invariant-loop-place : goal.invariant-loop-place
invariant-loop-place l = PlacedSoFar l.numbers l.places.items l.end l.place
