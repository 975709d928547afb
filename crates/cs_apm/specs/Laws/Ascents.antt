-- Ascending lists: what a search finds in them.
use Rattle.std.proofs.Common.{◌≡◌, ℕ, zero, suc, ◌+◌, ◌<◌, ◌≤◌, false, List, [], ◌∷◌}
use Rattle.std.proofs.Common.{length, get_or, sym, ap, ◌∙◌, ⊎_elim, arith}
use Rattle.std.proofs.lemmas.Bool.{cases_lt, false≢true}
use Rattle.std.proofs.lemmas.List.Sorted.{searchable_from_sorted}
use Rattle.std.specs.Cmp.{IsTotalOrder, tied_itself}
use Rattle.std.specs.FinMap.{IsAntisymmetric}
use Rattle.std.specs.List.{Contains, HoldsAt}
use Rattle.std.specs.List.Sorted.{IsNonDecreasingBy, IsPartitionPoint}
use Rattle.std.specs.Ordering.{is_gt, is_lt, ordering_index, ordering_reverse}
use Rattle.std.specs.declared.cmp.Ordering.{Ordering}
use Rattle.std.specs.declared.cmp.Ordering.TheVariants.{Less, Equal, Greater}
use Rattle.cs_apm.specs.Slots.{AreAboveBy, AreAscendingBy}

module _ {K : Type 0} {R : K → K → Ordering} (total : IsTotalOrder R) (exact : IsAntisymmetric R) where
  pub above_at : (q : K) (qs : List K) (d : K) → AreAboveBy R q qs → (i : ℕ) → i < length qs
      → R q (get_or qs i d) ≡ Less
  above_at q [] d h i lt = absurd (omega (arith, lt))
  above_at q (p ∷ ps) d h zero lt = h.0
  above_at q (p ∷ ps) d h (suc i) lt = above_at q ps d h.1 i (omega (arith, lt))

  pub ascends : (ps : List K) (d : K) → AreAscendingBy R ps → (i j : ℕ) → i < j → j < length ps
      → R (get_or ps i d) (get_or ps j d) ≡ Less
  ascends [] d up i j lt low = absurd (omega (arith, low))
  ascends (p ∷ ps) d up zero zero lt low = absurd (omega (arith, lt))
  ascends (p ∷ ps) d up (suc i) zero lt low = absurd (omega (arith, lt))
  ascends (p ∷ ps) d up zero (suc j) lt low = above_at p ps d up.0 j (omega (arith, low))
  ascends (p ∷ ps) d up (suc i) (suc j) lt low =
      ascends ps d up.1 i j (omega (arith, lt)) (omega (arith, low))

  not_back : (p q : K) → R p q ≡ Less → is_lt (R q p) ≡ false
  not_back p q less = ap is_lt (total.antisymm q p ∙ ap ordering_reverse less)

  pub searchable : (ps : List K) (q : K) → AreAscendingBy R ps
      → IsNonDecreasingBy (λ p. ordering_index (R p q)) ps
  searchable ps q up =
      searchable_from_sorted total (λ (p : K). p) ps q
      (λ k d low high. not_back (get_or ps k d) (get_or ps (k + 1) d)
      (ascends ps d up k (k + 1) (omega arith) high))

  -- ---- what a search says

  no_less : (q : K) → R q q ≡ Less → ⊥
  no_less q less = false≢true (sym (ap is_lt (tied_itself total q)) ∙ ap is_lt less)

  no_greater : (q : K) → R q q ≡ Greater → ⊥
  no_greater q greater = false≢true (sym (ap is_gt (tied_itself total q)) ∙ ap is_gt greater)

  -- a path that is there isn't between those below it and those above it
  pub found_between : (ps : List K) (q : K) (i : ℕ)
      → IsPartitionPoint (λ p. R p q ≡ Less) (λ p. R p q ≡ Greater) ps i → Contains ps q
      → ⊥
  found_between ps q i part there = ⊎_elim
      (λ (lt : there.0 < i). no_less q
      (ap (λ p. R p q) (sym there.2) ∙ part.0 there.0 q (omega arith) lt))
      (λ (le : i ≤ there.0). no_greater q
      (ap (λ p. R p q) (sym there.2) ∙ part.1 there.0 q le there.1))
      (cases_lt there.0 i)

  pub found_there : (ps : List K) (q : K) (i : ℕ) → i < length ps
      → HoldsAt (λ p. R p q ≡ Equal) ps i → Contains ps q
  found_there ps q i low holds = (i, low, exact (get_or ps i q) q (holds q))
