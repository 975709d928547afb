use Rattle.std.proofs.Common.{map}
use Rattle.std.specs.Io.KnownBytes.{Appends}
use Rattle.std.specs.List.{range_with_len}
use Rattle.cs_sets.specs.Orders.{needs_in}
use Rattle.cs_picks.specs.Families.{least_with}
use Rattle.cs_every.specs.Texts.{picks_text}
use Rattle.cs_picks.proofs.lost.write_lost.Given as goal

abbrev pub invariant-loop-place : goal.invariant-loop-place
invariant-loop-place g l =
    Appends (g.W.Write.contents l.fn.out) (g.W.Write.contents l.out)
    (picks_text (map (least_with (needs_in l.order)) (range_with_len 0 l.place)))
