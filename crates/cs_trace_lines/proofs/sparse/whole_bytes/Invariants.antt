use Rattle.std.proofs.Common.{◌≡◌, length, map, take, fold, replicate}
use Rattle.cs_trace_lines.specs.Kept.{part_value}
use Rattle.cs_trace_lines.specs.Sparse.{with_part}
use Rattle.cs_trace_lines.proofs.sparse.whole_bytes.Given as goal

-- the parts so far are in their places
abbrev pub invariant-loop-part : goal.invariant-loop-part
invariant-loop-part l = record {
  laid : l.file.items ≡ fold with_part (replicate l.length 0) (map part_value (take l.part-index l.parts));
  long : length l.file.items ≡ l.length;
}
