use Rattle.std.proofs.Common.{◌≡◌, ◌+◌, length}
use Rattle.std.specs.Io.BufRead.{strip_last}
use Rattle.cs_names.specs.Pieces.{pieces}
use Rattle.cs_names.specs.PiecesLeft.{pieces_left}
use Rattle.cs_script.specs.Scripts.{with_lines_first, lines_from}
use Rattle.cs_script.proofs.script.read_script.Given as goal

abbrev pub invariant-loop-text : goal.invariant-loop-text
invariant-loop-text l = record {
  read : with_lines_first l.lines.items (lines_from (l.before + 1) (pieces_left l.text-iterator))
      ≡ lines_from 1 (pieces 10 (strip_last 10 l.bytes));
  bounded : l.before + length (pieces_left l.text-iterator) ≡ length (pieces 10 (strip_last 10 l.bytes));
}
