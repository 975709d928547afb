use Rattle.std.proofs.Common.{◌≡◌, ◌+◌, length}
use Rattle.cs_names.specs.Pieces.{pieces}
use Rattle.cs_names.specs.PiecesLeft.{pieces_left}
use Rattle.cs_inputs.specs.Picks.{with_picks_first, picks_from}
use Rattle.cs_inputs.proofs.picks.read_picks.Given as goal

abbrev pub invariant-loop-line : goal.invariant-loop-line
invariant-loop-line l = record {
  read : with_picks_first l.picks.items (picks_from (l.before + 1) (pieces_left l.line-iterator)) ≡ picks_from 1 (pieces 10 l.bytes);
  bounded : l.before + length (pieces_left l.line-iterator) ≡ length (pieces 10 l.bytes);
}
