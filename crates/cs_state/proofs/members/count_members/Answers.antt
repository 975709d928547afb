use Rattle.std.proofs.Common.{◌≡◌, ℕ, ◌<◌, true, List, sym, ap, ◌∙◌, arith, rules, length, get_or, ⊎_elim}
use Rattle.std.proofs.lemmas.Bool.{cases_eq}
use Rattle.std.proofs.lemmas.List.{get_or_default}
use Rattle.std.proofs.lemmas.List.Sorted.{IsPartitionPoint-from_clause}
use Rattle.std.specs.List.Sorted.{IsPartitionedBy}
use Rattle.cs_state.specs.Numbers.{kept_at}
use Rattle.cs_state.specs.Shares.{mark_at}
use Rattle.cs_state.proofs.members.count_members.Goals as goal

parted : (members : List _) (places : List ℕ)
    → ((i j : ℕ) → i < j → j < length places → mark_at members (kept_at places j) ≡ true → mark_at members (kept_at places i) ≡ true)
    → IsPartitionedBy (mark_at members) places
parted members places first i j d le low here = ⊎_elim
    (λ (same : i ≡ j). ap (λ k. mark_at members (get_or places k d)) same ∙ here)
    (λ (other : i ≡ j → ⊥).
    ap (mark_at members) (get_or_default places i d 0 (omega (arith, le, low))) ∙ first i j (omega (arith, le, other)) low
    (ap (mark_at members) (sym (get_or_default places j d 0 low)) ∙ here))
    (cases_eq i j)

pub returns-clause-low : goal.returns-clause-low
returns-clause-low c =
    let point =
    IsPartitionPoint-from_clause (mark_at c.args.members.now) _ _ c.partition_point.ensures.partitioned
    (parted c.args.members.now c.args.places.now c.requires) (λ a r q k. search rules) in
    λ k h. point.0 k 0 (omega arith) h

pub returns-clause-high : goal.returns-clause-high
returns-clause-high c =
    let point =
    IsPartitionPoint-from_clause (mark_at c.args.members.now) _ _ c.partition_point.ensures.partitioned
    (parted c.args.members.now c.args.places.now c.requires) (λ a r q k. search rules) in
    λ k l h. point.1 k 0 l h
