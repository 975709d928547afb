use Rattle.std.proofs.Common.{◌≡◌, fold}
use Rattle.std.specs.List.{range_with_len}
use Rattle.cs_different.specs.Digests.{digest_at}
use Rattle.cs_different.proofs.digest.digest_tree.Given as goal

abbrev pub invariant-loop-number : goal.invariant-loop-number
invariant-loop-number g l = l.digest ≡ fold (digest_at (g.T.TreeRead.tree l.tree)) 0 (range_with_len 0 l.number)
