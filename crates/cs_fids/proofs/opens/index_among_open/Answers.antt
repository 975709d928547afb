use Rattle.std.proofs.Common.{nat_lt, arith, rules}
use Rattle.std.proofs.lemmas.Bool.Decides.{nat_tests}
use Rattle.std.proofs.lemmas.List.Sorted.{IsPartitionPoint-from_clause}
use Rattle.cs_fids.proofs.Numbers.{parts_at}
use Rattle.cs_fids.proofs.opens.index_among_open.Goals as goal

pub returns-clause-greater : goal.returns-clause-greater
returns-clause-greater c =
    let at = IsPartitionPoint-from_clause (λ n. nat_lt c.args.fid n) c.args.opens.now c.partition_point.result
    c.partition_point.ensures.partitioned (parts_at c.args.fid c.args.opens.now c.requires) (λ a r f called. search rules) in
    λ k d low less. (let is = at.0 k d low less in grind (arith, nat_tests))

pub returns-clause-rest : goal.returns-clause-rest
returns-clause-rest c =
    let at = IsPartitionPoint-from_clause (λ n. nat_lt c.args.fid n) c.args.opens.now c.partition_point.result
    c.partition_point.ensures.partitioned (parts_at c.args.fid c.args.opens.now c.requires) (λ a r f called. search rules) in
    λ k d low less. (let is = at.1 k d low less in grind (arith, nat_tests))
