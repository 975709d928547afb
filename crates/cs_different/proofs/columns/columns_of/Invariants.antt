use Rattle.std.proofs.Common.{◌≡◌, ◌<◌, ℕ, ◌&&◌, ltb, length}
use Rattle.cs_sets.specs.Chains.{by_chain}
use Rattle.cs_sets.specs.Orders.{needs_in}
use Rattle.cs_sets.specs.Rows.{needed_in}
use Rattle.cs_different.proofs.columns.columns_of.Given as goal

abbrev pub invariant-loop-place : goal.invariant-loop-place
invariant-loop-place l = record {
  long : length l.columns.items ≡ l.place;
  each : (i j : ℕ) → i < l.place → needed_in l.columns.items i j ≡ (ltb j (length l.order) && by_chain (needs_in l.order) i j);
}
