-- Which bytes of a file a micro-operation reaches.
use Rattle.std.specs.Prelude.{ℕ, ◌+◌, ◌==◌, ◌&&◌, if◌then◌else◌, nat_le, nat_lt, Bool, false, List}
use Rattle.std.specs.Prelude.{Option, None, Some, fold, length}
use Rattle.cs_trace.specs.declared.limits.TheConstants.{LARGE_FILE_BYTES}
use Rattle.cs_trace.specs.declared.operation.Target.TheVariants as targets
use Rattle.cs_micro.specs.declared.micro_op.MicroOp.{MicroOp}
use Rattle.cs_micro.specs.declared.micro_op.MicroOp.TheVariants.{ChangeFileSize, WriteBlock}
use Rattle.cs_micro.specs.declared.micro_op.MicroOp.TheVariants.{SetAttr}

-- the file that it changes, or whose owner, group and permissions it sets
abbrev pub changed_file : MicroOp → Option ℕ
changed_file (ChangeFileSize file size) = Some file
changed_file (WriteBlock file block start at bytes) = Some file
changed_file (SetAttr (targets.File file) rights) = Some file
changed_file _ = None

-- the lesser of a floor and the size that it gives the file
abbrev pub floor_after : ℕ → ℕ → MicroOp → ℕ
floor_after n floor (ChangeFileSize file size) =
    if file == n && nat_lt size floor then size else floor
floor_after n floor _ = floor

-- the least size that one of them gives the file
unfoldable pub floor_in : List MicroOp → ℕ → ℕ
floor_in ops n = fold (floor_after n) LARGE_FILE_BYTES ops

-- it writes the byte of the file, or changes its size and the byte is above the floor
abbrev pub reaches : ℕ → ℕ → ℕ → MicroOp → Bool
reaches floor n i (ChangeFileSize file size) = file == n && nat_le floor i
reaches floor n i (WriteBlock file block start at bytes) =
    file == n && (nat_le (start + at) i && nat_lt i (start + at + length bytes))
reaches floor n i _ = false
