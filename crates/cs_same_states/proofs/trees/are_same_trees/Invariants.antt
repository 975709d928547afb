use Rattle.std.proofs.Common.{ℕ, ◌<◌}
use Rattle.cs_same_states.specs.Trees.{AreSameAt}
use Rattle.cs_same_states.proofs.trees.are_same_trees.Given as goal

abbrev pub invariant-loop-number : goal.invariant-loop-number
invariant-loop-number g l = (n : ℕ) → n < l.number → AreSameAt (g.A.TreeRead.tree l.tree) (g.B.TreeRead.tree l.other) n
