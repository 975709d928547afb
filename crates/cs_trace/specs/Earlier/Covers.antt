-- What an operation waited for before version 4.
use Rattle.std.specs.Prelude.{ℕ}
use Rattle.cs_tree_model.specs.Tree.{Path}

pub data Covers : Type 0 where
  All : Covers
  File : ℕ → Covers
  Range : ℕ → ℕ → ℕ → Covers
  Directory : Path → Covers
