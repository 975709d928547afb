use Rattle.std.proofs.Common.{◌≡◌, take}
use Rattle.std.specs.List.{filter}
use Rattle.cs_sets.specs.Places.{places_of}
use Rattle.cs_different.specs.Members.{has_seconds}
use Rattle.cs_different.proofs.members.with_seconds.Given as goal

abbrev pub invariant-loop-set : goal.invariant-loop-set
invariant-loop-set l = l.kept.items ≡ filter (λ set. has_seconds l.firsts (places_of set)) (take l.set-index l.sets)
