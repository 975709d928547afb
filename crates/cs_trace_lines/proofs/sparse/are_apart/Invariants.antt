use Rattle.std.proofs.Common.{◌≡◌, map, drop}
use Rattle.cs_trace_lines.specs.Kept.{part_value}
use Rattle.cs_trace_lines.specs.Sparse.{are_apart}
use Rattle.cs_trace_lines.proofs.sparse.are_apart.Given as goal

-- what is left to see decides
abbrev pub invariant-loop-part : goal.invariant-loop-part
invariant-loop-part l =
    are_apart l.end l.length (map part_value (drop l.part-index l.parts)) ≡ are_apart l.fn.from l.length (map part_value l.parts)
