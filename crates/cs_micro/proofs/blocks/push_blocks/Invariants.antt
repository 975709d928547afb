use Rattle.std.proofs.Common.{◌≡◌, ◌++◌, ◌-◌, map}
use Rattle.std.specs.List.{range_with_len}
use Rattle.cs_trace_lines.specs.Versions.{block_bytes}
use Rattle.cs_micro.specs.Blocks.{block_of, block_write}
use Rattle.cs_micro.proofs.blocks.push_blocks.Given as goal

abbrev pub invariant-loop-block : goal.invariant-loop-block
invariant-loop-block l =
    l.ops.items ≡ l.initial.ops.items
    ++ map (block_write (block_bytes l.block_size) l.file l.offset l.bytes)
    (range_with_len (block_of (block_bytes l.block_size) l.offset) (l.block - block_of (block_bytes l.block_size) l.offset))
