use Rattle.std.proofs.Common.{◌≡◌, ℕ, ◌&&◌, ltb}
use Rattle.cs_sets.specs.Bits.{has_place}
use Rattle.cs_sets.specs.Rows.{bit_in}
use Rattle.cs_sets.proofs.needed.needed_row.Given as goal

abbrev pub invariant-loop-j : goal.invariant-loop-j
invariant-loop-j l = (k : ℕ) → has_place l.needed k ≡ (ltb k l.j && bit_in l.rows l.place k)
