use Rattle.cs_sets.proofs.Words.{AddsNone}
use Rattle.cs_sets.proofs.row.Row.is_within.Given as goal

abbrev pub invariant-loop-w : goal.invariant-loop-w
invariant-loop-w l = AddsNone l.self.words l.other.words l.w
