use Rattle.std.proofs.Common.{◌≡◌, ℕ, ◌≤◌, ◌&&◌, nat_lt, length}
use Rattle.cs_sets.specs.Bits.{has_place}
use Rattle.cs_sets.specs.Following.{HasNoneFree}
use Rattle.cs_sets.specs.Rows.{bit_in}
use Rattle.cs_sets.proofs.next.add_last.Given as goal

abbrev pub invariant-loop-place : goal.invariant-loop-place
invariant-loop-place l = record {
  left : (k : ℕ) → has_place l.members k ≡ (nat_lt k l.place && has_place l.fn.members k);
  low : l.place ≤ length l.rows;
  none : HasNoneFree (bit_in l.rows) (has_place l.fn.members) l.place (length l.rows);
}

abbrev pub decreases-loop-place : goal.decreases-loop-place
decreases-loop-place l = l.place
