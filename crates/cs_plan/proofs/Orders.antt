-- The order of a trace's micro-operations.
use Rattle.std.proofs.Common.{◌≡◌, length, map}
use Rattle.std.proofs.lemmas.List.FromFn.{length-map-range_with_len}
use Rattle.std.specs.List.{range_with_len}
use Rattle.cs_micro.specs.Micros.{Micros}
use Rattle.cs_sets.specs.Orders.{table}
use Rattle.cs_apm.specs.Orders.{needs_of, order_of}

pub length_order : (micros : Micros) → length (order_of micros) ≡ length micros.ops
unfolding table
length_order micros = length-map-range_with_len (λ j. map (λ i. needs_of micros i j) (range_with_len 0 j)) 0 (length micros.ops)
