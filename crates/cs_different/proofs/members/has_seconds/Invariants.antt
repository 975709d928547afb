use Rattle.std.proofs.Common.{◌≡◌, true, take}
use Rattle.cs_sets.specs.Places.{places_of}
use Rattle.cs_different.specs.Members.{has_seconds}
use Rattle.cs_different.proofs.members.has_seconds.Given as goal

abbrev pub invariant-loop-first : goal.invariant-loop-first
invariant-loop-first l = has_seconds (take l.first-index l.firsts) (places_of l.set) ≡ true
