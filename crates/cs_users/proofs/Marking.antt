-- One bit more.
use Rattle.std.proofs.Common.{◌≡◌, ℕ, ◌<◌, ◌==◌, ◌||◌, List, length, get_or, sym, ap, ◌∙◌, ⊎_elim, arith}
use Rattle.std.specs.Prelude.{◌/◌, ◌%◌, ◌*◌, ◌^◌, bit_or, slice_set}
use Rattle.std.specs.Int.{bit_at, w64}
use mir.Val.{bits}
use Rattle.std.proofs.lemmas.Bool.{cases_eq, eq-eqb, ne_eqb}
use Rattle.std.proofs.lemmas.List.{get_or-set_same, get_or-set_other}
use Rattle.std.proofs.lemmas.Nat.Bits.{bit_at_set_other, bit_at_set_same}
use Rattle.cs_users.specs.Marks.{is_marked}

module _ (words : List ℕ) (place word other : ℕ) (within : place / 64 < length words) (is : word ≡ get_or words (place / 64) 0) where
  abbrev set_word : ℕ
  set_word = bit_or word (1 * 2 ^ (place % 64) % 2 ^ bits w64)

  low : place % 64 < bits w64
  low = omega arith

  here : other / 64 ≡ place / 64 → get_or (slice_set words (place / 64) set_word) (other / 64) 0 ≡ set_word
  here same = ap (λ (n : ℕ). get_or (slice_set words (place / 64) set_word) n 0) same ∙ get_or-set_same words (place / 64) set_word 0 within

  apart : (other ≡ place → ⊥) → is_marked words other ≡ (place == other || is_marked words other)
  apart differs = sym (ap (λ b. b || is_marked words other) (ne_eqb place other (λ e. differs (sym e))))

  -- the bit that is set is the place's, and the others stay
  pub is_marked-set : is_marked (slice_set words (place / 64) set_word) other ≡ (place == other || is_marked words other)
  is_marked-set =
      ⊎_elim
      (λ (same_word : other / 64 ≡ place / 64). ⊎_elim
      (λ (same_bit : other % 64 ≡ place % 64).
      let equal : place ≡ other = omega (arith, same_word, same_bit) in
      ap (λ (w : ℕ). bit_at w (other % 64) == 1) (here same_word)
      ∙ ap (λ (n : ℕ). bit_at set_word n == 1) same_bit
      ∙ ap (λ (b : ℕ). b == 1) (bit_at_set_same w64 word (place % 64) low)
      ∙ sym (ap (λ b. b || is_marked words other) (eq-eqb place other equal)))
      (λ (other_bit : other % 64 ≡ place % 64 → ⊥).
      ap (λ (w : ℕ). bit_at w (other % 64) == 1) (here same_word)
      ∙ ap (λ (b : ℕ). b == 1) (bit_at_set_other w64 word (place % 64) low (other % 64) other_bit)
      ∙ ap (λ (w : ℕ). bit_at w (other % 64) == 1) (is ∙ ap (λ (n : ℕ). get_or words n 0) (sym same_word))
      ∙ apart (λ e. other_bit (ap (λ (n : ℕ). n % 64) e)))
      (cases_eq (other % 64) (place % 64)))
      (λ (other_word : other / 64 ≡ place / 64 → ⊥).
      ap (λ (w : ℕ). bit_at w (other % 64) == 1) (get_or-set_other words (place / 64) (other / 64) set_word 0 other_word)
      ∙ apart (λ e. other_word (ap (λ (n : ℕ). n / 64) e)))
      (cases_eq (other / 64) (place / 64))
