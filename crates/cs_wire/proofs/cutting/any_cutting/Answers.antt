use Rattle.cs_wire.proofs.OneCut.{begins, first, same, unfinished, undersized, oversized, short}
use Rattle.cs_wire.proofs.cutting.any_cutting.Goals as goal

pub returns : goal.returns
returns c = record {
  joined = begins;
  first = first;
  same = same;
  unfinished = unfinished;
  undersized = undersized;
  oversized = oversized;
  short = short;
}
