use Rattle.cs_apm.proofs.Halving.{HasFirstHalves}
use Rattle.cs_apm.proofs.profiles.has_both_halves.Given as goal

abbrev pub invariant-loop-index : goal.invariant-loop-index
invariant-loop-index l = HasFirstHalves l.ops l.places l.index
