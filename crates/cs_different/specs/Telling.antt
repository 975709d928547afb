-- Whether two trees are equal, as a test: by their codes.
use Rattle.std.specs.Prelude.{◌==◌, ◌&&◌, Bool, true, false}
use base.Stored.{Gv, gnil, gnum, gcons}
use Rattle.cs_tree_model.specs.Tree.{Tree, tree_code}

abbrev pub same_code : Gv → Gv → Bool
same_code gnil gnil = true
same_code (gnum n) (gnum m) = n == m
same_code (gcons a b) (gcons c d) = same_code a c && same_code b d
same_code _ _ = false

unfoldable pub same_tree : Tree → Tree → Bool
same_tree t u = same_code (tree_code.code t) (tree_code.code u)
