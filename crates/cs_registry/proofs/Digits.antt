-- The number that a few digits mean.
use Rattle.std.proofs.Common.{◌≡◌, ◌∙◌, ℕ, ◌+◌, ◌*◌, ◌^◌, ◌<◌, ◌≤◌, true, List, length, ap, arith, add-one, get_or}
use Rattle.std.specs.Prelude.{nat_le}
use Rattle.std.specs.Char.{is_ascii_digit}
use Rattle.std.specs.List.{list_all}
use Rattle.std.proofs.Math.Nat.{pow-le-pow_right, pow-succ'}
use Rattle.std.proofs.lemmas.Bool.{and_parts}
use Rattle.std.proofs.lemmas.Bool.Decides.{nat_tests}
use Rattle.std.proofs.lemmas.List.Sums.{AllPass-from_list_all}
use Rattle.cs_registry.specs.Naming.{are_few_digits}

digit_range : (c : ℕ) → is_ascii_digit c ≡ true → (48 ≤ c) × (c ≤ 57)
digit_range c e = (grind (arith, nat_tests), grind (arith, nat_tests))

module _ (digits : List ℕ) (are : are_few_digits digits ≡ true) where
  few : length digits ≤ 5
  few = (let short = (and_parts (nat_le (length digits) 5) (list_all is_ascii_digit digits) are).0 in grind (arith, nat_tests))

  -- each is a digit
  pub digit_at : (i : ℕ) → i < length digits → (48 ≤ get_or digits i 0) × (get_or digits i 0 ≤ 57)
  digit_at i inside =
      digit_range _
      (AllPass-from_list_all is_ascii_digit digits (and_parts (nat_le (length digits) 5) (list_all is_ascii_digit digits) are).1 i 0 inside)

  -- a number of fewer digits is small
  pub power_small : (i : ℕ) → i < length digits → 10 ^ i ≤ 10000
  power_small i inside = pow-le-pow_right {n = 10} (omega arith) {i = i} {j = 4} (omega (arith, few))

pub power_more : (i : ℕ) → 10 ^ (i + 1) ≡ 10 * 10 ^ i
power_more i = ap (λ n. 10 ^ n) (add-one i) ∙ pow-succ' 10 i
