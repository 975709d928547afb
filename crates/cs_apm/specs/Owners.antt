-- Owner, group and permissions that a set leaves of one file, or of one directory.
use Rattle.std.specs.Prelude.{ℕ, ◌==◌, if◌then◌else◌, List, fold, map}
use Rattle.cs_entries.specs.declared.node.Node.TheVariants.{Directory}
use Rattle.cs_start.specs.declared.rights.Rights.{Rights}
use Rattle.cs_trace.specs.declared.operation.Target.TheVariants as targets
use Rattle.cs_micro.specs.declared.micro_op.MicroOp.{MicroOp}
use Rattle.cs_micro.specs.declared.micro_op.MicroOp.TheVariants.{CreateDirEntry, SetAttr}
use Rattle.cs_apm.specs.Rules.{op_at}

-- owner, group and permissions of file n after the micro-operation
abbrev pub owner_after : ℕ → Rights → MicroOp → Rights
owner_after n owner (SetAttr (targets.File file) rights) = if file == n then rights else owner
owner_after n owner _ = owner

-- owner, group and permissions of file n after the members of a set
unfoldable pub owner_left : ℕ → Rights → List MicroOp → List ℕ → Rights
owner_left n owner ops places = fold (owner_after n) owner (map (op_at ops) places)

-- ---- the same of directory n

abbrev pub directory_after : ℕ → Rights → MicroOp → Rights
directory_after n owner (CreateDirEntry e (Directory d) rights bytes) =
    if d == n then rights else owner
directory_after n owner (SetAttr (targets.Directory d path) rights) =
    if d == n then rights else owner
directory_after n owner _ = owner

unfoldable pub directory_left : ℕ → Rights → List MicroOp → List ℕ → Rights
directory_left n owner ops places = fold (directory_after n) owner (map (op_at ops) places)
