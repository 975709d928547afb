-- What was at a path before version 4.
use Rattle.std.specs.Prelude.{ℕ}

pub data Node : Type 0 where
  Directory : Node
  File : ℕ → Node
