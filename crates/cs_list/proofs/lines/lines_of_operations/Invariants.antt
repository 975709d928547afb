use Rattle.std.proofs.Common.{◌≡◌, take}
use Rattle.std.specs.List.{enumerate_from, flat_map}
use Rattle.cs_list.specs.Lines.{line_of}
use Rattle.cs_list.proofs.lines.lines_of_operations.Given as goal

abbrev pub invariant-loop-place : goal.invariant-loop-place
invariant-loop-place l =
    l.lines.items ≡ flat_map (line_of l.version l.numbers l.first) (take l.place (enumerate_from 0 l.operations))
