use Rattle.std.proofs.Common.{◌≡◌, map}
use Rattle.serde_json.specs.View.{items_view}
use Rattle.cs_trace_lines.specs.Kept.{part_value}
use Rattle.cs_trace_lines.specs.Lines.{parts_of}
use Rattle.cs_trace_lines.proofs.Parting.{after}
use Rattle.cs_trace_lines.proofs.parts.parts_of.Given as goal

-- the parts so far, and those of the values that are left, are those of all values
abbrev pub invariant-loop-value : goal.invariant-loop-value
invariant-loop-value l =
    after (map part_value l.parts.items) (parts_of l.version (items_view l.value-iterator.rest.items)) ≡ parts_of l.version
    (items_view l.fn.values.items)
