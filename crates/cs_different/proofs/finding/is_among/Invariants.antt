use Rattle.std.proofs.Common.{◌≡◌, false, take}
use Rattle.std.specs.List.{list_any}
use Rattle.cs_sets.specs.Places.{places_of}
use Rattle.cs_different.specs.Sets.{leave_same}
use Rattle.cs_different.proofs.finding.is_among.Given as goal

abbrev pub invariant-loop-found : goal.invariant-loop-found
invariant-loop-found l = list_any (λ f. leave_same l.scene (places_of f.set) (places_of l.set)) (take l.found-index l.kept) ≡ false
