use Rattle.std.proofs.Common.{arith, rules}
use Rattle.cs_sets.proofs.row.Row.know_words.Goals as goal

pub returns : goal.returns
returns c = record { long = search rules; words = λ i low. c.loop-w.invariant i (omega (arith, low)) }
