use Rattle.std.proofs.Common.{◌≡◌, ◌<◌, ℕ, ◌&&◌, ltb, length}
use Rattle.cs_sets.specs.Rows.{bit_in, needed_in}
use Rattle.cs_sets.proofs.needed.needed_of.Given as goal

abbrev pub invariant-loop-place : goal.invariant-loop-place
invariant-loop-place l = record {
  long : length l.needed.items ≡ l.place;
  each : (i j : ℕ) → i < l.place → needed_in l.needed.items i j ≡ (ltb j (length l.rows) && bit_in l.rows i j);
}
