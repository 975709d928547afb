-- The bytes of legal micro-operations lie within the largest file.
use Rattle.std.proofs.Common.{◌≤◌, Bool, true, false, List, [], ◌∷◌, arith}
use Rattle.std.proofs.lemmas.List.Elements.{All-cons, All-nil}
use Rattle.std.specs.List.{All}
use Rattle.std.specs.Prelude.{if◌then◌else◌}
use Rattle.cs_names.specs.declared.limits.TheConstants.{FILE_BYTES}
use Rattle.cs_trace_lines.specs.Versions.{is_fourth}
use Rattle.cs_trace_lines.specs.declared.version.Version.{Version}
use Rattle.cs_trace.specs.Limits.{most_bytes}
use Rattle.cs_trace.specs.declared.limits.TheConstants.{LARGE_FILE_BYTES}
use Rattle.cs_micro.specs.declared.micro_op.MicroOp.{MicroOp}
use Rattle.cs_micro.specs.declared.micro_op.MicroOp.TheVariants.{CreateDirEntry, DeleteDirEntry}
use Rattle.cs_micro.specs.declared.micro_op.MicroOp.TheVariants.{MoveDirEntry, LinkDirEntry}
use Rattle.cs_micro.specs.declared.micro_op.MicroOp.TheVariants.{ChangeFileSize, WriteBlock}
use Rattle.cs_micro.specs.declared.micro_op.MicroOp.TheVariants.{SetAttr, Say}
use Rattle.cs_micro.specs.Legal.{AreLegal, IsLegal, Made, made_after}
use Rattle.cs_apm.specs.Contents.{IsSmall}

pub most_large : (version : Version) → most_bytes version ≤ LARGE_FILE_BYTES
most_large version = by (is_fourth version)
  where
    by : (fourth : Bool) → (if fourth then LARGE_FILE_BYTES else FILE_BYTES) ≤ LARGE_FILE_BYTES
    by true = omega arith
    by false = omega arith

one_small : (version : Version) (m : Made) (o : MicroOp) → IsLegal version m o → IsSmall o
one_small version m (CreateDirEntry e node rights bytes) h = tt
one_small version m (DeleteDirEntry e node) h = tt
one_small version m (MoveDirEntry a b node old) h = tt
one_small version m (LinkDirEntry e kind file old half) h = tt
one_small version m (ChangeFileSize file to) h = tt
one_small version m (WriteBlock file block start at bytes) h =
    let low = h.fitting.4 in let most = most_large version in omega (arith, low, most)
one_small version m (SetAttr target rights) h = tt
one_small version m Say h = tt

pub small_steps : (version : Version) (m : Made) (ops : List MicroOp) → AreLegal version m ops
    → All IsSmall ops
small_steps version m [] h = All-nil IsSmall
small_steps version m (o ∷ ops) h =
    All-cons IsSmall o ops (one_small version m o h.0)
    (small_steps version (made_after m o) ops h.1)
