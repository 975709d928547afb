use Rattle.std.proofs.Common.{ltb, ltb-true, ltb-false, arith, rules}
use Rattle.std.proofs.lemmas.List.Sorted.{IsPartitionPoint-from_clause, IsPartitionedBy-ltb}
use Rattle.cs_state.specs.Numbers.{empty_own}
use Rattle.cs_state.proofs.Counting.{high_in, low_in, part_long, part_rises}
use Rattle.cs_state.proofs.numbers.ids_below.Goals as goal

pub returns-clause-bound : goal.returns-clause-bound
returns-clause-bound c =
    let long =
    part_long (λ o. o.id) c.args.own.now c.args.least c.args.most c.min-end.result c.min-from.result c.args.id c.partition_point.result
    c.min-end.ensures c.min-from.ensures c.requires.least c.requires.most in
    let bound = c.partition_point.ensures.bound in
    let end = c.min-end.ensures in
    let from = c.min-from.ensures in
    omega (arith, long, bound, end, from)

pub returns-clause-low : goal.returns-clause-low
returns-clause-low c =
    let parted =
    IsPartitionedBy-ltb (λ o. o.id) _ c.args.id
    (part_rises (λ o. o.id) c.args.own.now c.args.least c.args.most c.min-end.result c.min-from.result c.args.id
    c.partition_point.result c.min-end.ensures c.min-from.ensures c.requires.least c.requires.most c.requires.rising) in
    let point =
    IsPartitionPoint-from_clause (λ o. ltb o.id c.args.id) _ _ c.partition_point.ensures.partitioned parted (λ a r q k. search rules) in
    low_in (λ o. o.id) c.args.own.now c.args.least c.args.most c.min-end.result c.min-from.result c.args.id c.partition_point.result
    c.min-end.ensures c.min-from.ensures c.requires.least c.requires.most
    (λ k h. ltb-true _ _ (point.0 k empty_own (omega arith) h)) c.partition_point.ensures.bound

pub returns-clause-high : goal.returns-clause-high
returns-clause-high c =
    let parted =
    IsPartitionedBy-ltb (λ o. o.id) _ c.args.id
    (part_rises (λ o. o.id) c.args.own.now c.args.least c.args.most c.min-end.result c.min-from.result c.args.id
    c.partition_point.result c.min-end.ensures c.min-from.ensures c.requires.least c.requires.most c.requires.rising) in
    let point =
    IsPartitionPoint-from_clause (λ o. ltb o.id c.args.id) _ _ c.partition_point.ensures.partitioned parted (λ a r q k. search rules) in
    high_in (λ o. o.id) c.args.own.now c.args.least c.args.most c.min-end.result c.min-from.result c.args.id c.partition_point.result
    c.min-end.ensures c.min-from.ensures c.requires.least c.requires.most
    (λ k l h. ltb-false _ _ (point.1 k empty_own l h))
