-- Numbers of nothing but digits.
use Rattle.std.proofs.Common.{◌≡◌, ℕ, ◌^◌, ◌<◌, Bool, true, false, ◌&&◌, List, [], ◌∷◌, Some, None, get_or, length, zero, suc, refl, sym}
use Rattle.std.proofs.Common.{ap, ◌∙◌, arith}
use Rattle.std.specs.Prelude.{Result, Ok, Err, IsAscii, if◌then◌else◌, nat_lt}
use Rattle.std.specs.Char.{is_ascii_digit}
use Rattle.std.specs.List.{list_all}
use Rattle.std.specs.Result.{OkIff, result_ok}
use Rattle.std.specs.Str.{all_ascii_digits}
use Rattle.std.specs.Str.Parse.{ParsesUnsigned, digits_value}
use Rattle.std.proofs.lemmas.Bool.{ltb-true, lt-ltb}
use Rattle.std.proofs.lemmas.Str.Parse.{numerals_by_value, parse_digits, tells_all_ascii_digits}
use Rattle.cs_inputs.specs.PickLines.{number_of_32_bits}
use Rattle.cs_script.specs.Scripts.{is_decimal, number_in}

digits_same : (bs : List ℕ) → list_all is_ascii_digit bs ≡ all_ascii_digits bs
digits_same [] = refl
digits_same (c ∷ cs) = ap (λ b. is_ascii_digit c && b) (digits_same cs)

ascii_at : (bs : List ℕ) → all_ascii_digits bs ≡ true → (i : ℕ) → get_or bs i 0 < 128
ascii_at [] e i = omega arith
ascii_at (c ∷ cs) e zero = (let k = tells_all_ascii_digits.parts c cs e in omega (arith, k.0.1))
ascii_at (c ∷ cs) e (suc i) = ascii_at cs (tells_all_ascii_digits.parts c cs e).1 i

second : (a b : Bool) → a && b ≡ true → b ≡ true
second true b e = e
second false b e = absurd (cc)

first : (a b : Bool) → a && b ≡ true → a ≡ true
first true b e = refl
first false b e = absurd (cc)

all_digits : (bs : List ℕ) → is_decimal bs ≡ true → all_ascii_digits bs ≡ true
all_digits bs e = sym (digits_same bs) ∙ second (nat_lt 0 (length bs)) (list_all is_ascii_digit bs) e

-- digits are ASCII
pub decimal_is_ascii : (bs : List ℕ) → is_decimal bs ≡ true → IsAscii bs
decimal_is_ascii bs e = ascii_at bs (all_digits bs e)

too_large : (n : ℕ) (b : Bool) → nat_lt n (2 ^ 32) ≡ b → (n < 2 ^ 32 → ⊥) → None ≡ (if b then Some n else None)
too_large n true e never = absurd (never (ltb-true n (2 ^ 32) e))
too_large n false e never = refl

parsed_as : {E : Type 0} (P : Type 0) (n : ℕ) (r : Result ℕ E) → P → OkIff r (P × (n < 2 ^ 32)) n → result_ok r ≡ number_of_32_bits n
parsed_as P n (Ok x) p h = rw (lt-ltb n (2 ^ 32) h.0.1) (ap Some h.1)
parsed_as P n (Err e) p h = too_large n (nat_lt n (2 ^ 32)) refl (λ low. h (p, low))

-- what is parsed of them is the number
pub parsed : {E : Type 0} (bs : List ℕ) (r : Result ℕ E) → is_decimal bs ≡ true → ParsesUnsigned 32 10 bs r → result_ok r ≡ number_in bs
parsed bs r e h =
    let some : 0 < length bs = ltb-true 0 (length bs) (first (nat_lt 0 (length bs)) (list_all is_ascii_digit bs) e) in
    rw e (parsed_as (0 < length bs) (digits_value 10 bs) r some
    (parse_digits (numerals_by_value (λ ds. all_ascii_digits ds ≡ true) tells_all_ascii_digits) 32 bs r h (all_digits bs e)))
