use Rattle.std.proofs.Common.{map, take}
use Rattle.std.specs.Io.KnownBytes.{Appends}
use Rattle.cs_sets.specs.Places.{places_of}
use Rattle.cs_every.specs.Texts.{picks_text}
use Rattle.cs_every.proofs.printed.write_rows.Given as goal

abbrev pub invariant-loop-set : goal.invariant-loop-set
invariant-loop-set g l =
    Appends (g.W.Write.contents l.fn.out) (g.W.Write.contents l.out) (picks_text (map places_of (take l.set-index l.sets)))
