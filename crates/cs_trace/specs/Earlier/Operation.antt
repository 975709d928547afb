-- The operations of a trace before version 4, by paths.
use Rattle.std.specs.Prelude.{ℕ, List}
use Rattle.cs_tree_model.specs.Tree.{Path}
use Rattle.cs_start.specs.declared.rights.Rights.{Rights}
use Rattle.cs_trace.specs.Earlier.Covers.{Covers}
use Rattle.cs_trace.specs.Earlier.Target.{Target}

pub data Operation : Type 0 where
  Creat : Path → ℕ → Rights → Operation
  Mkdir : Path → Rights → Operation
  Link : Path → ℕ → Operation
  Unlink : Path → Operation
  Rmdir : Path → Operation
  Rename : Path → Path → Operation
  Write : ℕ → ℕ → ℕ → List ℕ → Operation
  Truncate : ℕ → ℕ → ℕ → Operation
  SetAttr : Target → Rights → Rights → Operation
  Sync : Covers → Operation
  Say : Operation
