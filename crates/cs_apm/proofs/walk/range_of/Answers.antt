use Rattle.std.proofs.Common.{◌<◌, ◌≤◌, nat_le, nat_lt, ⊎_elim, arith, rules}
use Rattle.std.proofs.lemmas.Bool.{cases_lt, leb-false, leb-true, ltb-false, ltb-true}
use Rattle.std.proofs.lemmas.List.Sorted.{IsPartitionPoint-from_clause, IsPartitionedBy-leb, IsPartitionedBy-ltb}
use Rattle.cs_entries.specs.declared.entry.Entry.{Entry}
use Rattle.cs_entries.specs.DirEntries.{root_home}
use Rattle.cs_apm.proofs.Walking.{directories_rise}
use Rattle.cs_apm.proofs.walk.range_of.Goals as goal

pub returns-clause-order : goal.returns-clause-order
returns-clause-order c =
    let es = c.args.entries.now in
    let d = c.args.directory in
    let first =
    IsPartitionPoint-from_clause (λ (e : Entry). nat_lt e.directory d) es c.partition_point-first.result
    c.partition_point-first.ensures.partitioned
    (IsPartitionedBy-ltb (λ (e : Entry). e.directory) es d (directories_rise es c.requires)) (λ a r f called. search rules) in
    let end =
    IsPartitionPoint-from_clause (λ (e : Entry). nat_le e.directory d) es c.partition_point-end.result
    c.partition_point-end.ensures.partitioned
    (IsPartitionedBy-leb (λ (e : Entry). e.directory) es d (directories_rise es c.requires)) (λ a r f called. search rules) in
    ⊎_elim
    (λ (back : c.partition_point-end.result < c.partition_point-first.result).
    (let bound = c.partition_point-first.ensures.bound in
    let below = ltb-true _ _ (first.0 c.partition_point-end.result root_home (omega arith) back) in
    let above = leb-false _ _ (end.1 c.partition_point-end.result root_home (omega arith) (omega (arith, back, bound))) in
    absurd (omega (arith, below, above))))
    (λ (le : c.partition_point-first.result ≤ c.partition_point-end.result). le)
    (cases_lt c.partition_point-end.result c.partition_point-first.result)

pub returns-clause-before : goal.returns-clause-before
returns-clause-before c =
    let es = c.args.entries.now in
    let d = c.args.directory in
    let first =
    IsPartitionPoint-from_clause (λ (e : Entry). nat_lt e.directory d) es c.partition_point-first.result
    c.partition_point-first.ensures.partitioned
    (IsPartitionedBy-ltb (λ (e : Entry). e.directory) es d (directories_rise es c.requires)) (λ a r f called. search rules) in
    λ k e low less same. (let below = ltb-true _ _ (first.0 k e low less) in omega (arith, below, same))

pub returns-clause-of : goal.returns-clause-of
returns-clause-of c =
    let es = c.args.entries.now in
    let d = c.args.directory in
    let first =
    IsPartitionPoint-from_clause (λ (e : Entry). nat_lt e.directory d) es c.partition_point-first.result
    c.partition_point-first.ensures.partitioned
    (IsPartitionedBy-ltb (λ (e : Entry). e.directory) es d (directories_rise es c.requires)) (λ a r f called. search rules) in
    let end =
    IsPartitionPoint-from_clause (λ (e : Entry). nat_le e.directory d) es c.partition_point-end.result
    c.partition_point-end.ensures.partitioned
    (IsPartitionedBy-leb (λ (e : Entry). e.directory) es d (directories_rise es c.requires)) (λ a r f called. search rules) in
    λ k e low less.
    (let bound = c.partition_point-end.ensures.bound in
    let above = ltb-false _ _ (first.1 k e low (omega (arith, less, bound))) in
    let below = leb-true _ _ (end.0 k e (omega arith) less) in
    omega (arith, above, below))

pub returns-clause-behind : goal.returns-clause-behind
returns-clause-behind c =
    let es = c.args.entries.now in
    let d = c.args.directory in
    let end =
    IsPartitionPoint-from_clause (λ (e : Entry). nat_le e.directory d) es c.partition_point-end.result
    c.partition_point-end.ensures.partitioned
    (IsPartitionedBy-leb (λ (e : Entry). e.directory) es d (directories_rise es c.requires)) (λ a r f called. search rules) in
    λ k e low less same. (let above = leb-false _ _ (end.1 k e low less) in omega (arith, above, same))
