use Rattle.std.proofs.Common.{◌≡◌, ◌≤◌, [], take, drop, length}
use Rattle.cs_names.specs.Pieces.{pieces}
use Rattle.cs_names.specs.PiecesLeft.{pieces_left}
use Rattle.cs_users.specs.Reading.{first_fault, rows_in}
use Rattle.cs_users.proofs.keeping.rows_of_lines.Given as goal

abbrev pub invariant-loop-line : goal.invariant-loop-line
invariant-loop-line l = record {
  within : l.before ≤ length (pieces 10 l.text);
  left : pieces_left l.line-iterator ≡ drop l.before (pieces 10 l.text);
  same : first_fault (take l.before (pieces 10 l.text)) (pieces_left l.line-iterator) ≡ first_fault [] (pieces 10 l.text);
  rows : l.rows ≡ rows_in (take l.before (pieces 10 l.text));
}
