-- The order of runs: by the numbers of their states, and then by their names' bytes.
use Rattle.std.specs.Prelude.{◌≡◌}
use Rattle.std.specs.Cmp.{IsPartialOrder, IsTotalOrder, both_tied, nat_cmp_total, on_total}
use Rattle.std.specs.Cmp.{partial_order_from_total, then_total, unsigned_ties}
use Rattle.std.specs.Cmp.Derive.{alike_po}
use Rattle.std.specs.Cmp.Lexicographic.{on_texts, slice_cmp, texts_ties}
use Rattle.std.specs.Ordering.{as_partial_cmp, eq_by_cmp, nat_cmp, ordering_then}
use Rattle.std.specs.declared.cmp.Ordering.{Ordering}
use Rattle.cs_registry.specs.Keys.{Key, same_key}

abbrev pub key_cmp : Key → Key → Ordering
key_cmp one other =
    ordering_then (nat_cmp one.number other.number) (slice_cmp nat_cmp one.name other.name)

-- it is an order, and keys that are equal in it are the same
pub key_total : IsTotalOrder key_cmp
key_total =
    then_total (on_total (λ (key : Key). key.number) nat_cmp_total)
    (on_texts (λ (key : Key). key.name))

pub key_ties : (one other : Key) → same_key one other ≡ eq_by_cmp key_cmp one other
key_ties one other =
    both_tied _ _ _ _ (unsigned_ties one.number other.number) (texts_ties one.name other.name)

pub key_order : IsPartialOrder same_key (as_partial_cmp key_cmp)
key_order = alike_po (partial_order_from_total key_total) key_ties
