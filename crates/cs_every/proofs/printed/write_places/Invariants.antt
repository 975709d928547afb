use Rattle.std.proofs.Common.{take}
use Rattle.std.specs.Io.KnownBytes.{Appends}
use Rattle.cs_every.specs.Texts.{others_text}
use Rattle.cs_every.proofs.printed.write_places.Given as goal

abbrev pub invariant-loop-place : goal.invariant-loop-place
invariant-loop-place g l = Appends (g.W.Write.contents l.fn.out) (g.W.Write.contents l.out) (others_text (take l.place-index l.places))
