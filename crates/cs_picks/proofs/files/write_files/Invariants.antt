use Rattle.std.specs.Io.KnownBytes.{Appends}
use Rattle.std.specs.List.{flat_map, range_with_len}
use Rattle.cs_picks.specs.Families.{prefix_sets}
use Rattle.cs_every.specs.Texts.{picks_text}
use Rattle.cs_picks.proofs.files.write_files.Given as goal

abbrev pub invariant-loop-end : goal.invariant-loop-end
invariant-loop-end g l =
    Appends (g.W.Write.contents l.fn.out) (g.W.Write.contents l.out)
    (picks_text (flat_map (prefix_sets l.micros l.order) (range_with_len 0 l.end)))
