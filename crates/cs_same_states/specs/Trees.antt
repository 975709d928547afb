-- When two trees have the same under a number.
use Rattle.std.specs.Prelude.{◌≡◌, ℕ}
use Rattle.cs_tree_model.specs.Tree.{Tree, name_numbered, parent_numbered, record_numbered}

-- the number has the same record, in the same directory under the same name, or none in both
pub record AreSameAt (t u : Tree) (n : ℕ) : Type 0 where
  pub records : record_numbered t n ≡ record_numbered u n
  pub parents : parent_numbered t n ≡ parent_numbered u n
  pub names : name_numbered t n ≡ name_numbered u n
