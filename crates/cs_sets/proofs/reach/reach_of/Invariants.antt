use Rattle.std.proofs.Common.{◌≡◌, length}
use Rattle.cs_sets.specs.Rows.{AreReach}
use Rattle.cs_sets.proofs.reach.reach_of.Given as goal

abbrev pub invariant-loop-k : goal.invariant-loop-k
invariant-loop-k l = record {
  long : length l.reach.items ≡ l.k;
  reached : AreReach l.rows l.reach.items l.k;
}
