use Rattle.cs_sets.proofs.Words.{IsJoined}
use Rattle.cs_sets.proofs.row.Row.join.Given as goal

abbrev pub invariant-loop-w : goal.invariant-loop-w
invariant-loop-w l = IsJoined l.self.words l.initial.self.words l.other.words l.w
