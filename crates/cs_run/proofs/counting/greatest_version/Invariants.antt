use Rattle.std.proofs.Common.{ℕ, ◌<◌}
use Rattle.cs_run.specs.Laws.{AllVersBelow}
use Rattle.cs_run.proofs.Bounding.{IsVersWithin}
use Rattle.cs_run.proofs.counting.greatest_version.Given as goal

abbrev pub invariant-loop-number : goal.invariant-loop-number
invariant-loop-number g l = record {
  before : (n : ℕ) → n < l.number → IsVersWithin (g.T.TreeRead.tree l.tree) l.greatest n;
  least : (k : ℕ) → 0 < k → AllVersBelow k (g.T.TreeRead.tree l.tree) → l.greatest < k;
  last : IsVersWithin (g.T.TreeRead.tree l.tree) l.greatest l.last;
}
