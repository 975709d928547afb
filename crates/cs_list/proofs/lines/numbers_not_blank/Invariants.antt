use Rattle.std.proofs.Common.{◌≡◌, length, take}
use Rattle.std.specs.List.{enumerate_from, flat_map}
use Rattle.cs_trace.specs.States.{lines_in}
use Rattle.cs_list.specs.Lines.{number_unless_blank}
use Rattle.cs_list.proofs.lines.numbers_not_blank.Given as goal

abbrev pub invariant-loop-place : goal.invariant-loop-place
invariant-loop-place l = l.numbers.items ≡ flat_map number_unless_blank (take (length l.yielded) (enumerate_from 0 (lines_in l.text)))
