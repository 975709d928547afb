-- The places of a row, one after the other.
use Rattle.std.proofs.Common.{◌≡◌, ℕ, suc, ◌+◌, ◌-◌, ◌≤◌, Bool, true, false, cond, [], ◌∷◌, ◌++◌, length, ap, sym, ◌∙◌, arith, zero}
use Rattle.std.proofs.Common.{length-append}
use Rattle.cs_sets.specs.declared.row.Row.{Row}
use Rattle.cs_sets.specs.Bits.{has_place}
use Rattle.cs_sets.specs.Finding.{HasNone, IsNext}
use Rattle.cs_sets.specs.Following.{chosen}
use Rattle.cs_sets.specs.Places.{places_of}
use Rattle.cs_sets.specs.Laws.Following.{chosen_more, chosen_on}

pub chosen_next : (has : ℕ → Bool) (k : ℕ) → chosen has (k + 1) ≡ chosen has k ++ cond (has k) (k ∷ []) []
chosen_next has k = let e : k + 1 ≡ suc k = omega arith in ap (chosen has) e ∙ chosen_more has k

short : (b : Bool) (k : ℕ) → length (cond b (k ∷ []) []) ≤ 1
short true k = omega arith
short false k = omega arith

few_chosen : (has : ℕ → Bool) (k : ℕ) → length (chosen has k) ≤ k
few_chosen has zero = omega arith
few_chosen has (suc k) =
    let rest = few_chosen has k in
    let one = short (has k) k in
    let long = ap length (chosen_more has k) in
    let sum = length-append (chosen has k) (cond (has k) (k ∷ []) []) in
    omega (arith, rest, one, long, sum)

pub few_places : (row : Row) → length (places_of row) ≤ 1024
unfolding places_of
few_places row = few_chosen (has_place row) 1024

-- one place after the other is chosen, in steps to the next one
pub place_chosen : (has : ℕ → Bool) (k place : ℕ) → IsNext has k 1024 place → chosen has (place + 1) ≡ chosen has k ++ place ∷ []
place_chosen has k place next =
    let low = next.from_first in
    let e : k + (place - k) ≡ place = omega (arith, low) in
    chosen_next has place ∙ ap (λ b. chosen has place ++ cond b (place ∷ []) []) next.is_there
    ∙ ap (λ v. v ++ place ∷ [])
    (ap (chosen has) (sym e) ∙ chosen_on has k (place - k) (λ i l u. next.none_before i l (omega (arith, u, e))))

pub rest_unchosen : (row : Row) (k : ℕ) → k ≤ 1024 → HasNone (has_place row) k 1024 → chosen (has_place row) k ≡ places_of row
unfolding places_of
rest_unchosen row k low none =
    let e : k + (1024 - k) ≡ 1024 = omega (arith, low) in
    sym (ap (chosen (has_place row)) (sym e)
    ∙ chosen_on (has_place row) k (1024 - k) (λ i l u. none i l (omega (arith, u, e))))
