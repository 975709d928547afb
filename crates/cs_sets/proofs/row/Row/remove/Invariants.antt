use Rattle.cs_sets.proofs.Words.{IsCleared}
use Rattle.cs_sets.proofs.row.Row.remove.Given as goal

abbrev pub invariant-loop-w : goal.invariant-loop-w
invariant-loop-w l = IsCleared l.self.words l.initial.self.words l.other.words l.w
