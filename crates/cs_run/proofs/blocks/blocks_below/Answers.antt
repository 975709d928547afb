use Rattle.std.proofs.Common.{rules, arith}
use Rattle.std.proofs.lemmas.List.Sorted.{IsPartitionPoint-from_clause}
use Rattle.cs_run.proofs.Joining.{parted}
use Rattle.cs_run.specs.Blocks.{ends_below}
use Rattle.cs_run.proofs.blocks.blocks_below.Goals as goal

pub returns-clause-below : goal.returns-clause-below
returns-clause-below c k b less =
    (IsPartitionPoint-from_clause (ends_below c.args.number) c.args.blocks.now c.partition_point.result
    c.partition_point.ensures.partitioned (parted c.args.blocks.now c.requires.ascending c.requires.filled c.args.number)
    (λ a r f called. search rules)).0 k b (omega arith) less

pub returns-clause-next : goal.returns-clause-next
returns-clause-next c b within =
    (IsPartitionPoint-from_clause (ends_below c.args.number) c.args.blocks.now c.partition_point.result
    c.partition_point.ensures.partitioned (parted c.args.blocks.now c.requires.ascending c.requires.filled c.args.number)
    (λ a r f called. search rules)).1 c.partition_point.result b (omega arith) within
