use Rattle.std.proofs.Common.{◌≡◌, ℕ, ltb}
use Rattle.cs_sets.specs.Bits.{has_place}
use Rattle.cs_sets.proofs.row.Row.below.Given as goal

abbrev pub invariant-loop-place : goal.invariant-loop-place
invariant-loop-place l = (k : ℕ) → has_place l.row k ≡ ltb k l.place
