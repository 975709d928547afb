use Rattle.std.proofs.Common.{◌≡◌, ◌+◌, ℕ, true, false, length, take}
use Rattle.std.specs.List.{All}
use Rattle.cs_sets.specs.Rows.{bit_in}
use Rattle.cs_different.proofs.under.show_halves.Given as goal

abbrev pub invariant-loop-first : goal.invariant-loop-first
invariant-loop-first l = record {
  long : length l.wanted.items ≡ length l.fn.wanted.items;
  less : (z k : ℕ) → bit_in l.wanted.items z k ≡ true → bit_in l.fn.wanted.items z k ≡ true;
  first : All (λ i. (z : ℕ) → bit_in l.wanted.items z i ≡ false) (take l.first-index l.firsts);
  second : All (λ i. (z : ℕ) → bit_in l.wanted.items z (i + 1) ≡ false) (take l.first-index l.firsts);
}
