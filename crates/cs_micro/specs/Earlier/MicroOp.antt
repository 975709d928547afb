-- The micro-operations before version 4, by paths.
use Rattle.std.specs.Prelude.{ℕ, List}
use Rattle.cs_tree_model.specs.Tree.{Path}
use Rattle.cs_start.specs.declared.rights.Rights.{Rights}
use Rattle.cs_trace.specs.Earlier.Node.{Node}
use Rattle.cs_trace.specs.Earlier.Target.{Target}
use Rattle.cs_micro.specs.Earlier.EntryKind.{EntryKind}

pub data MicroOp : Type 0 where
  CreateDirEntry : Path → Node → Rights → MicroOp
  DeleteDirEntry : Path → EntryKind → MicroOp
  MoveDirEntry : Path → Path → MicroOp
  LinkDirEntry : Path → ℕ → MicroOp
  ChangeFileSize : ℕ → ℕ → MicroOp
  WriteBlock : ℕ → ℕ → ℕ → ℕ → List ℕ → MicroOp
  SetAttr : Target → Rights → MicroOp
  Say : MicroOp
