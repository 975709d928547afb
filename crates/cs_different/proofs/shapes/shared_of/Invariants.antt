use Rattle.std.proofs.Common.{◌≡◌, ◌<◌, ℕ, get_or, true}
use Rattle.std.specs.BTreeSet.{contains}
use Rattle.std.specs.Ordering.{nat_cmp}
use Rattle.cs_different.proofs.shapes.shared_of.Given as goal

abbrev pub invariant-loop-number : goal.invariant-loop-number
invariant-loop-number l = record {
  once : (k : ℕ) → k < l.number-index → contains nat_cmp l.once (get_or l.numbers k 0) ≡ true;
  twice : (a b : ℕ) → a < b → b < l.number-index → get_or l.numbers a 0 ≡ get_or l.numbers b 0
      → contains nat_cmp l.twice (get_or l.numbers b 0) ≡ true;
}
