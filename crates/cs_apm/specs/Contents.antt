-- What a set leaves of one file.
use Rattle.std.specs.Prelude.{ℕ, ◌+◌, ◌≤◌, ◌==◌, if◌then◌else◌, Bool, false, List, length, fold}
use Rattle.std.specs.Prelude.{map}
use Rattle.cs_trace.specs.declared.limits.TheConstants.{LARGE_FILE_BYTES}
use Rattle.cs_micro.specs.declared.micro_op.MicroOp.{MicroOp}
use Rattle.cs_micro.specs.declared.micro_op.MicroOp.TheVariants.{ChangeFileSize, WriteBlock}
use Rattle.cs_apm.specs.Rules.{op_at}
use Rattle.cs_apm.specs.States.{Content, overwritten, content_with_size}

-- it changes the file of the number
abbrev pub changes_file : ℕ → MicroOp → Bool
changes_file n (ChangeFileSize file size) = file == n
changes_file n (WriteBlock file block start at bytes) = file == n
changes_file n _ = false

-- the content of a file after a micro-operation that is of this file
abbrev pub content_after_op : Content → MicroOp → Content
content_after_op content (ChangeFileSize file size) = content_with_size size content
content_after_op content (WriteBlock file block start at bytes) =
    overwritten (start + at) bytes content
content_after_op content _ = content

abbrev pub content_after : ℕ → Content → MicroOp → Content
content_after n content op = if changes_file n op then content_after_op content op else content

-- the file of the number after the members of a set
unfoldable pub content_left : ℕ → Content → List MicroOp → List ℕ → Content
content_left n content ops places = fold (content_after n) content (map (op_at ops) places)

-- a write of a block ends within the largest file
abbrev pub IsSmall : MicroOp → Type 0
IsSmall (WriteBlock file block start at bytes) = start + at + length bytes ≤ LARGE_FILE_BYTES
IsSmall _ = Unit {0}
