-- Which line of a trace's text each micro-operation came from.
use Rattle.std.specs.Prelude.{ℕ, ◌+◌, List, [], ◌∷◌, cond, length, replicate, slice_index}
use Rattle.std.specs.List.{enumerate_from, flat_map}
use Rattle.cs_trace_lines.specs.Values.{is_blank}
use Rattle.cs_trace.specs.States.{lines_in}
use Rattle.cs_trace.specs.Traces.{Trace}
use Rattle.cs_trace.specs.declared.operation.Operation.{Operation}
use Rattle.cs_micro.specs.MicroOperations.{micros_of}
use Rattle.cs_trace_lines.specs.declared.version.Version.{Version}

-- the number of the line at a place, unless it is blank; lines count from 1
abbrev pub number_unless_blank : ℕ × List ℕ → List ℕ
number_unless_blank e = cond (is_blank e.1) [] ((e.0 + 1) ∷ [])

-- the numbers of the lines that aren't blank
abbrev pub numbers_not_blank : List (List ℕ) → List ℕ
numbers_not_blank lines = flat_map number_unless_blank (enumerate_from 0 lines)

-- an operation's line for each of its micro-operations, in a trace of the version; so many lines
-- come before those of operations
abbrev pub line_of : Version → List ℕ → ℕ → ℕ × Operation → List ℕ
line_of version lines first e =
    replicate (length (micros_of version e.1)) (slice_index lines (first + e.0))

abbrev pub lines_of_operations : Version → List ℕ → ℕ → List Operation → List ℕ
lines_of_operations version lines first operations =
    flat_map (line_of version lines first) (enumerate_from 0 operations)

-- the line of each micro-operation: the header and the lines of the start, which make one record
-- each, come before those of the operations
abbrev pub lines_of : List ℕ → Trace → List ℕ
lines_of text trace =
    lines_of_operations trace.version (numbers_not_blank (lines_in text)) (length trace.records)
    trace.operations
