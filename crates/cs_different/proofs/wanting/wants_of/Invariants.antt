use Rattle.std.proofs.Common.{◌≡◌, ℕ, length, true}
use Rattle.cs_sets.specs.Rows.{bit_in}
use Rattle.cs_different.specs.Wants.{Wants}
use Rattle.cs_different.proofs.wanting.wants_of.Given as goal

abbrev pub invariant-loop-place : goal.invariant-loop-place
invariant-loop-place l = record {
  long : length l.wanted.items ≡ l.place;
  wants : (z k : ℕ) → bit_in l.wanted.items z k ≡ true → Wants l.scene z k;
}
