use Rattle.cs_apm.proofs.Finding.{IsFirstForced}
use Rattle.cs_apm.proofs.logs.first_behind.Given as goal

abbrev pub invariant-loop-at : goal.invariant-loop-at
invariant-loop-at l = IsFirstForced l.forced l.i l.first l.at-index
