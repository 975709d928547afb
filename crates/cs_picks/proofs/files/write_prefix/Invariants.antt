use Rattle.std.proofs.Common.{take}
use Rattle.std.specs.Io.KnownBytes.{Appends}
use Rattle.std.specs.List.{flat_map}
use Rattle.cs_sets.specs.Orders.{needs_in}
use Rattle.cs_picks.specs.Families.{sets_without}
use Rattle.cs_every.specs.Texts.{picks_text}
use Rattle.cs_picks.proofs.files.write_prefix.Given as goal

abbrev pub invariant-loop-file : goal.invariant-loop-file
invariant-loop-file g l =
    Appends (g.W.Write.contents l.fn.out) (g.W.Write.contents l.out)
    (picks_text (flat_map (sets_without (needs_in l.order) l.shorter l.losses) (take l.file-index l.files)))
