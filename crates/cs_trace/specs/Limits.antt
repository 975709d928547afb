-- The limits of a trace that depend on its version.
use Rattle.std.specs.Prelude.{ℕ, if◌then◌else◌}
use Rattle.cs_names.specs.declared.limits.TheConstants.{FILE_BYTES}
use Rattle.cs_trace_lines.specs.Versions.{is_fourth}
use Rattle.cs_trace_lines.specs.declared.version.Version.{Version}
use Rattle.cs_trace.specs.declared.limits.TheConstants.{LARGE_FILE_BYTES}

-- the greatest size of a file
abbrev pub most_bytes : Version → ℕ
most_bytes version = if is_fourth version then LARGE_FILE_BYTES else FILE_BYTES
