use Rattle.std.proofs.Common.{arith}
use Rattle.cs_different.proofs.shapes.shared_of.Goals as goal

pub returns : goal.returns
returns c = λ a b low high same. c.loop-number.invariant.twice a b low (omega (arith, high)) same
