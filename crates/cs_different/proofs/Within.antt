-- What a row wants is seen, in the code's words.
use Rattle.std.proofs.Common.{◌≡◌, ℕ, ◌+◌, ◌<◌, ◌≤◌, ◌↔◌, ◌==◌, ◌&&◌, ◌||◌, not, Bool, true, false, List, length, get_or, refl, sym, ap}
use Rattle.std.proofs.Common.{◌∙◌, arith, ⊎_elim}
use Rattle.std.proofs.lemmas.Bool.{cases_eq, eq-eqb, ne_eqb}
use Rattle.std.proofs.lemmas.Bool.Decides.{same_from_decides}
use Rattle.cs_sets.specs.declared.row.Row.{Row}
use Rattle.cs_sets.specs.Bits.{has_place}
use Rattle.cs_sets.specs.Chains.{IsBackward}
use Rattle.cs_sets.specs.Rows.{bit_in}
use Rattle.cs_different.proofs.Rows.{bit_read}
use Rattle.cs_different.specs.Seen.{has_wanted, see}
use Rattle.cs_different.proofs.Seeing.{wanted_from, wanted_same, wanted_says}

-- a row is within what is seen exactly if all that its place wants is
pub found_wanted : (rows : List Row) (k : ℕ) → k < length rows → IsBackward (bit_in rows) → (seen : Row) (found : Bool) (d : Row)
    → ((found ≡ true) ↔ ((z : ℕ) → has_place (get_or rows k d) z ≡ true → has_place seen z ≡ true))
    → has_wanted (bit_in rows) k (has_place seen) ≡ found
found_wanted rows k low back seen found d is =
    same_from_decides (has_wanted (bit_in rows) k (has_place seen)) found (
      λ t z has. wanted_says (bit_in rows) k (has_place seen) t z (back z k (bit_read rows k z d low ∙ has)) (bit_read rows k z d low ∙
          has),
      λ all. wanted_from (bit_in rows) k (has_place seen) (λ z w. all z (sym (bit_read rows k z d low) ∙ w)),
    )
    (is.0, is.1)

and_true : (b : Bool) → (b && true) ≡ b
and_true true = refl
and_true false = refl

and_false : (b : Bool) → (b && false) ≡ false
and_false true = refl
and_false false = refl

-- a place that isn't seen is taken away
pub place_cut : (wanted : Bool) (common after : Row) (k : ℕ) → wanted ≡ false
    → ((i : ℕ) → has_place after i ≡ (has_place common i && not (i == k)))
    → (i : ℕ) → has_place after i ≡ (has_place common i && not (i == k && not wanted))
place_cut wanted common after k f cut i =
    cut i ∙ ap (λ b. has_place common i && not b) (sym (and_true (i == k)))
    ∙ sym (ap (λ w. has_place common i && not (i == k && not w)) f)

pub place_stays : (wanted : Bool) (common : Row) (k : ℕ) → wanted ≡ true
    → (i : ℕ) → has_place common i ≡ (has_place common i && not (i == k && not wanted))
place_stays wanted common k t i =
    sym (ap (λ w. has_place common i && not (i == k && not w)) t ∙ ap (λ b. has_place common i && not b) (and_false (i == k))
    ∙ and_true (has_place common i))

module _ (wants : ℕ → ℕ → Bool) (k : ℕ) (common after : Row)
    (is : (i : ℕ) → has_place after i ≡ (has_place common i && not (i == k && not (has_wanted wants k (has_place common))))) where
  pub others_stay : (j : ℕ) → (j ≡ k → ⊥) → has_place after j ≡ has_place common j
  others_stay j ne =
      is j ∙ ap (λ b. has_place common j && not (b && not (has_wanted wants k (has_place common)))) (ne_eqb j k ne)
      ∙ and_true (has_place common j)

  module _ (state : ℕ → Bool) (seen : (i : ℕ) → i < k → has_place common i ≡ state i) (unseen : (i : ℕ) → k ≤ i → state i ≡ false) where
    -- the place is seen if what it wants is
    pub common_seen : has_place common k ≡ true → (i : ℕ) → i < k + 1 → has_place after i ≡ see wants state k i
    common_seen free i low = ⊎_elim
        (λ (e : i ≡ k).
        is i ∙ ap (λ b. b && not (i == k && not (has_wanted wants k (has_place common)))) (ap (has_place common) e ∙ free)
        ∙ ap (λ b. not (b && not (has_wanted wants k (has_place common)))) (eq-eqb i k e)
        ∙ not_not (has_wanted wants k (has_place common)) ∙ wanted_same wants k (has_place common) state seen
        ∙ sym (or_false (has_wanted wants k state))
        ∙ sym (ap (λ b. b && has_wanted wants k state || state i) (eq-eqb i k e)
        ∙ ap (λ b. has_wanted wants k state || b) (unseen i (omega (arith, e)))))
        (λ (ne : i ≡ k → ⊥).
        others_stay i ne ∙ seen i (omega (arith, low, ne)) ∙ sym (ap (λ b. b && has_wanted wants k state || state i) (ne_eqb i k ne)))
        (cases_eq i k)
      where
        not_not : (b : Bool) → not (not b) ≡ b
        not_not true = refl
        not_not false = refl

        or_false : (b : Bool) → (b || false) ≡ b
        or_false true = refl
        or_false false = refl

    pub later_unseen : (i : ℕ) → k + 1 ≤ i → see wants state k i ≡ false
    later_unseen i high =
        ap (λ b. b && has_wanted wants k state || state i) (ne_eqb i k (λ e. omega (arith, high, e))) ∙ unseen i (omega (arith, high))
