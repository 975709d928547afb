use Rattle.std.proofs.Common.{◌≡◌}
use Rattle.std.specs.BTreeMap.{get}
use Rattle.cs_tree_model.specs.Tree.{Path, path_cmp, number_at}
use Rattle.cs_frozen.proofs.Entering.{below}
use Rattle.cs_frozen.proofs.numbering.numbers_by_path.Given as goal

-- the map has the paths of the lower numbers
abbrev pub invariant-loop-number : goal.invariant-loop-number
invariant-loop-number g l = (q : Path) → get path_cmp l.paths q ≡ below l.number (number_at (g.T.TreeRead.tree l.tree) q)
