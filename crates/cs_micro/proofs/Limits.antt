-- A legal write or truncate ends within the largest file.
use Rattle.std.proofs.Common.{ℕ, ◌≤◌, Bool, true, false, List, [], ◌∷◌, arith}
use Rattle.std.proofs.lemmas.List.Elements.{All-cons, All-nil}
use Rattle.std.specs.List.{All}
use Rattle.std.specs.Prelude.{if◌then◌else◌}
use Rattle.cs_names.specs.declared.limits.TheConstants.{FILE_BYTES}
use Rattle.cs_trace_lines.specs.Versions.{is_fourth}
use Rattle.cs_trace_lines.specs.declared.version.Version.{Version}
use Rattle.cs_trace.specs.Limits.{most_bytes}
use Rattle.cs_trace.specs.Operations.{AreLegal, FileSystem, IsLegal, system_after}
use Rattle.cs_trace.specs.declared.limits.TheConstants.{LARGE_FILE_BYTES}
use Rattle.cs_trace.specs.declared.operation.Operation.{Operation}
use Rattle.cs_trace.specs.declared.operation.Operation.TheVariants.{Creat, Mkdir, Symlink, Unlink, Rmdir, Rename, Link, Write, Truncate}
use Rattle.cs_trace.specs.declared.operation.Operation.TheVariants.{SetAttr, Sync, Say}
use Rattle.cs_micro.specs.MicroOperations.{IsWithinLimit}

-- no version has larger files than the fourth
pub most_large : (version : Version) → most_bytes version ≤ LARGE_FILE_BYTES
most_large version = by (is_fourth version)
  where
    by : (fourth : Bool) → (if fourth then LARGE_FILE_BYTES else FILE_BYTES) ≤ LARGE_FILE_BYTES
    by true = omega arith
    by false = omega arith

within : (version : Version) (fs : FileSystem) (o : Operation) → IsLegal version fs o → IsWithinLimit version o
within version fs (Creat e file rights) legal = tt
within version fs (Mkdir e directory rights) legal = tt
within version fs (Symlink e file rights target) legal = tt
within version fs (Unlink e kind file) legal = tt
within version fs (Rmdir e directory) legal = tt
within version fs (Rename a b node old) legal = tt
within version fs (Link e file) legal = tt
within version fs (Write file size offset bytes) legal = legal.fitting.2
within version fs (Truncate file size to) legal = legal.fitting.2
within version fs (SetAttr target before after) legal = tt
within version fs (Sync covers) legal = tt
within version fs Say legal = tt

pub all_within : (version : Version) (fs : FileSystem) (ops : List Operation) → AreLegal version fs ops → All (IsWithinLimit version) ops
all_within version fs [] legal = All-nil (IsWithinLimit version)
all_within version fs (o ∷ ops) legal =
    All-cons (IsWithinLimit version) o ops (within version fs o legal.0) (all_within version (system_after fs o) ops legal.1)
