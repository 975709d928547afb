-- The next bit, word by word.
use Rattle.std.proofs.Common.{◌≡◌, ℕ, ◌+◌, ◌-◌, ◌*◌, ◌/◌, ◌%◌, ◌^◌, ◌<◌, ◌≤◌, ◌==◌, List, get_or}
use Rattle.std.proofs.Common.{sym, ap, ◌∙◌, ⊎_elim, arith}
use Rattle.std.proofs.lemmas.Bool.{cases_lt}
use Rattle.std.proofs.lemmas.Nat.{shr-shr}
use Rattle.std.proofs.lemmas.Nat.Bits.{bit_at-zero, bit_at_above, bit_at-trailing_zeros}
use Rattle.std.specs.Int.{bit_at, trailing_zeros, w64}
use Rattle.cs_sets.specs.Bits.{has_bit, has_place}
use Rattle.cs_sets.specs.Finding.{HasNone, IsNext}
use Rattle.cs_sets.specs.declared.row.Row.{Row}

shifted : (n s i : ℕ) → bit_at (n / 2 ^ s) i ≡ bit_at n (s + i)
shifted n s i = ap (λ v. v % 2) (shr-shr n s i)

-- a bit of the word, from a place on
here : (words : List ℕ) (at d : ℕ) → at % 64 + d < 64
    → has_bit words (at + d) ≡ (bit_at (get_or words (at / 64) 0 / 2 ^ (at % 64)) d == 1)
here words at d low =
    let q : (at + d) / 64 ≡ at / 64 = omega (arith, low) in
    let r : (at + d) % 64 ≡ at % 64 + d = omega (arith, low) in
    ap (λ m. bit_at (get_or words m 0) ((at + d) % 64) == 1) q ∙ ap (λ m. bit_at (get_or words (at / 64) 0) m == 1) r
    ∙ ap (λ b. b == 1) (sym (shifted (get_or words (at / 64) 0) (at % 64) d))

pub word_empty : (row : Row) (first at : ℕ) → get_or row.words (at / 64) 0 / 2 ^ (at % 64) ≡ 0 → HasNone (has_place row) first at
    → HasNone (has_place row) first ((at / 64 + 1) * 64)
unfolding has_place
word_empty row first at zero none i l u = ⊎_elim
    (λ (low : i < at). none i l low)
    (λ (high : at ≤ i).
    (let e : i ≡ at + (i - at) = omega (arith, high) in
    ap (has_bit row.words) e ∙ here row.words at (i - at) (omega (arith, high, u))
    ∙ ap (λ w. bit_at w (i - at) == 1) zero ∙ ap (λ b. b == 1) (bit_at-zero (i - at))))
    (cases_lt i at)

module _ (row : Row) (first at : ℕ) (from : first ≤ at) (bound : get_or row.words (at / 64) 0 < 2 ^ 64)
    (low : 0 < get_or row.words (at / 64) 0 / 2 ^ (at % 64)) (small : get_or row.words (at / 64) 0 / 2 ^ (at % 64) < 2 ^ 64)
    (none : HasNone (has_place row) first at) where
  abbrev word : ℕ
  word = get_or row.words (at / 64) 0 / 2 ^ (at % 64)

  abbrev zeros : ℕ
  zeros = trailing_zeros w64 word

  inside : at % 64 + zeros < 64
  inside =
      let t = bit_at-trailing_zeros w64 word low small in
      let one : bit_at (get_or row.words (at / 64) 0) (at % 64 + zeros) ≡ 1 = sym (shifted (get_or row.words (at / 64) 0) (at % 64) zeros)
      ∙ t.1 in
      ⊎_elim
      (λ (l : at % 64 + zeros < 64). l)
      (λ (h : 64 ≤ at % 64 + zeros). (let z = bit_at_above (get_or row.words (at / 64) 0) 64 (at % 64 + zeros) bound h in absurd
      (omega (arith, z, one))))
      (cases_lt (at % 64 + zeros) 64)

  none_till : HasNone (has_place row) first (at + zeros)
  unfolding has_place
  none_till i l u = ⊎_elim
      (λ (before : i < at). none i l before)
      (λ (high : at ≤ i).
      (let t = bit_at-trailing_zeros w64 word low small in
      let e : i ≡ at + (i - at) = omega (arith, high) in
      let less : i - at < zeros = omega (arith, high, u) in
      ap (has_bit row.words) e ∙ here row.words at (i - at) (omega (arith, less, inside)) ∙ ap (λ b. b == 1) (t.2 (i - at) less)))
      (cases_lt i at)

  pub word_next : (end : ℕ) → at + zeros < end → IsNext (has_place row) first end (at + zeros)
  unfolding has_place
  word_next end under = record {
    from_first = omega (arith, from);
    before_end = under;
    is_there = (let t = bit_at-trailing_zeros w64 word low small in here row.words at zeros inside ∙ ap (λ b. b == 1) t.1);
    none_before = none_till;
  }

  pub word_past : (end : ℕ) → end ≤ at + zeros → HasNone (has_place row) first end
  word_past end over i l u = none_till i l (omega (arith, u, over))
