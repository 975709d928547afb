-- Whose owner, group and permissions were set before version 4.
use Rattle.std.specs.Prelude.{ℕ}
use Rattle.cs_tree_model.specs.Tree.{Path}

pub data Target : Type 0 where
  File : ℕ → Target
  Directory : Path → Target
