use Rattle.std.proofs.Common.{arith}
use Rattle.cs_trace_lines.specs.Versions.{block_bytes}
use Rattle.cs_micro.proofs.Counted.{count_blocks}
use Rattle.cs_micro.proofs.counting.count_of_blocks.Goals as goal

pub returns-clause-value : goal.returns-clause-value
returns-clause-value c file bytes is =
    omega (
      arith,
      count_blocks (block_bytes c.args.block_size) file c.args.offset c.args.count bytes is,
      c.block_of.ensures.value,
      c.block_of-2.ensures.value,
    )
