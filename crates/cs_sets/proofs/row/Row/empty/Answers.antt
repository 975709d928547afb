use Rattle.cs_sets.specs.Bits.{has_place}
use Rattle.cs_sets.proofs.Words.{no_bit}
use Rattle.cs_sets.proofs.row.Row.empty.Goals as goal

pub returns : goal.returns
unfolding has_place
returns c = no_bit
