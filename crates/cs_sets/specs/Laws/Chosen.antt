-- Places of a row, from place to place.
use Rattle.std.proofs.Common.{◌≡◌, ℕ, suc, ◌+◌, ◌-◌, ◌<◌, ◌≤◌, ◌==◌, ◌&&◌, ◌||◌, nat_lt, Bool, true, false, List, [], ◌∷◌, ◌++◌, sym, ap, ◌∙◌, arith, ⊎_elim}
use Rattle.std.proofs.lemmas.Bool.{eq-eqb, ne_eqb, or_left, lt-ltb, le-ltb, cases_eq, cases_lt}
use Rattle.cs_sets.specs.declared.row.Row.{Row}
use Rattle.cs_sets.specs.Bits.{has_place}
use Rattle.cs_sets.specs.Following.{chosen, cut_with}
use Rattle.cs_sets.specs.Places.{IsWithin, places_of}
use Rattle.cs_sets.specs.Laws.Following.{chosen_on, chosen_same, chosen_with}

-- what passes below k, and k, as a list
pub cut_chosen : (has : ℕ → Bool) (n k : ℕ) → k < n → chosen (cut_with has k) n
    ≡ chosen has k ++ k ∷ []
cut_chosen has n k low =
    let e : n ≡ suc k + (n - suc k) = omega (arith, low) in
    ap (chosen (cut_with has k)) e
    ∙ chosen_on (cut_with has k) (suc k) (n - suc k)
    (λ i from to. ap (λ b. b || (nat_lt i k && has i)) (ne_eqb i k (λ q. omega (arith, q, from)))
    ∙ ap (λ b. b && has i) (le-ltb i k (omega (arith, from))))
    ∙ chosen_with (cut_with has k) k (ap (λ b. b || (nat_lt k k && has k)) (eq-eqb k k refl_k))
    ∙ ap (λ v. v ++ k ∷ [])
    (chosen_same (cut_with has k) has k
    (λ i below. ap (λ b. b || (nat_lt i k && has i)) (ne_eqb i k (λ q. omega (arith, q, below)))
    ∙ ap (λ b. b && has i) (lt-ltb i k below)))
  where
    refl_k : k ≡ k
    refl_k = omega arith

pub places_read : (row : Row) (n : ℕ) → n ≤ 1024 → IsWithin n row → places_of row
    ≡ chosen (has_place row) n
unfolding places_of
places_read row n few within =
    let e : 1024 ≡ n + (1024 - n) = omega (arith, few) in
    ap (chosen (has_place row)) e ∙ chosen_on (has_place row) n (1024 - n)
    (λ i low high. within i low)

pub none_read : (row : Row) → ((k : ℕ) → has_place row k ≡ false) → places_of row ≡ []
none_read row none = places_read row 0 (omega arith) (λ k low. none k)
