use Rattle.std.proofs.Common.{rules}
use Rattle.cs_sets.specs.Bits.{has_place}
use Rattle.cs_sets.proofs.Words.{drop_bit}
use Rattle.cs_sets.proofs.row.Row.clear.Goals as goal

pub returns : goal.returns
unfolding has_place
returns c = λ k. drop_bit c.args.self.now.words c.args.place k (search rules) c.requires
