-- What sets with one place missing cover.
use Rattle.std.proofs.Common.{◌≡◌, ◌≢◌, ℕ, zero, suc, ◌+◌, ◌-◌, ◌<◌, ◌≤◌, ◌==◌, ◌||◌, not, Bool, true, false, List, [], ◌∷◌, ◌++◌}
use Rattle.std.proofs.Common.{refl, sym, ap, ◌∙◌, arith, ⊎_elim, subst}
use Rattle.std.proofs.lemmas.Bool.{cases_Bool, cases_eq, cases_lt, eq-eqb, ne_eqb, false≢true}
use Rattle.cs_sets.specs.Chains.{IsBackward, by_chain}
use Rattle.cs_sets.specs.Following.{chosen}
use Rattle.cs_sets.specs.Holes.{LacksOne, Loses, hole, is_kept}
use Rattle.cs_sets.specs.Sets.{IsAllowed, is_member}
use Rattle.cs_sets.specs.Laws.Complete.{lower, none_below, rest}
use Rattle.cs_sets.specs.Laws.Following.{chosen_has, chosen_on, chosen_same, chosen_with, chosen_without}
use Rattle.cs_sets.specs.Laws.Lists.{last_view}
use Rattle.cs_sets.specs.Laws.Members.{allowed_below, member_last, member_other, not_member}
use Rattle.cs_sets.specs.Laws.Reaching.{chains_reach, closed}

none_chosen : (has : ℕ → Bool) (n : ℕ) → ((i : ℕ) → has i ≡ false) → chosen has n ≡ []
none_chosen has n none = let e : n ≡ 0 + n = omega arith in ap (chosen has) e
    ∙ chosen_on has 0 n (λ i l u. none i)

module _ (needs : ℕ → ℕ → Bool) (back : IsBackward needs) where
  -- an allowed set is what it has, in order
  ends_in : (k : ℕ) → ((places : List ℕ) → IsAllowed needs k places → places
      ≡ chosen (is_member places) k) → (ys : List ℕ) (y : ℕ)
      → IsAllowed needs (suc k) (ys ++ y ∷ []) → ys ++ y ∷ []
      ≡ chosen (is_member (ys ++ y ∷ [])) (suc k)
  ends_in k before ys y allowed = ⊎_elim
      (λ (e : y ≡ k).
      let is : IsAllowed needs (suc k) (ys ++ k ∷ []) = subst
      (λ v. IsAllowed needs (suc k) (ys ++ v ∷ [])) e allowed in
      subst (λ v. ys ++ v ∷ [] ≡ chosen (is_member (ys ++ v ∷ [])) (suc k)) (sym e)
      (ap (λ v. v ++ k ∷ []) (before ys (rest needs back k ys is)
      ∙ chosen_same (is_member ys) (is_member (ys ++ k ∷ [])) k
      (λ i low. sym (member_other ys k i (λ q. omega (arith, q, low)))))
      ∙ sym (chosen_with (is_member (ys ++ k ∷ [])) k (member_last ys k))))
      (λ (ne : y ≢ k).
      let is = lower needs back k y ys allowed ne in
      before (ys ++ y ∷ []) is
      ∙ sym (chosen_without (is_member (ys ++ y ∷ [])) k
      (not_member k k (ys ++ y ∷ []) (allowed_below needs k (ys ++ y ∷ []) is) (omega arith))))
      (cases_eq y k)

  pub listed : (n : ℕ) (places : List ℕ) → IsAllowed needs n places → places
      ≡ chosen (is_member places) n
  listed zero places allowed = sym (none_below needs back places allowed)
  listed (suc k) places allowed = ⊎_elim
      (λ (e : places ≡ []).
      subst (λ v. v ≡ chosen (is_member v) (suc k)) (sym e)
      (sym (none_chosen (is_member []) (suc k) (λ i. refl))))
      (λ (w : (ys : List ℕ) × ((y : ℕ) × (places ≡ ys ++ y ∷ []))).
      subst (λ v. v ≡ chosen (is_member v) (suc k)) (sym w.1.1)
      (ends_in k (listed k) w.0 w.1.0 (subst (IsAllowed needs (suc k)) w.1.1 allowed)))
      (last_view places)

  -- what a set has although it lacks i is kept without i
  pub lost_is_kept : (n i k : ℕ) (places : List ℕ) → IsAllowed needs n places → Loses i k places
      → is_kept needs i k ≡ true
  lost_is_kept n i k places allowed loses =
      ap (λ b. not (b || by_chain needs i k))
      (ne_eqb i k (λ e. false≢true (sym loses.lacks_earlier ∙ ap (is_member places) e
      ∙ loses.has_later)))
      ∙ ap not (⊎_elim
      (λ (t : by_chain needs i k ≡ true).
      absurd (false≢true (sym loses.lacks_earlier
      ∙ closed needs (by_chain needs) (chains_reach needs back) (k + 1) k (omega arith) n places
      allowed loses.has_later i t)))
      (λ (f : by_chain needs i k ≡ false). f)
      (cases_Bool (by_chain needs i k)))

  -- so the hole that ends with k loses it too
  pub hole_loses : (i k : ℕ) → i < k → is_kept needs i k ≡ true → Loses i k (hole needs i (k + 1))
  hole_loses i k low kept = record {
    has_later = chosen_has (is_kept needs i) (k + 1) k (omega arith) ∙ kept;
    lacks_earlier = chosen_has (is_kept needs i) (k + 1) i (omega (arith, low))
        ∙ ap (λ b. not (b || by_chain needs i i)) (eq-eqb i i refl);
  }

  -- a set that lacks exactly i, and what needs it, is a hole
  pub lacks_is_hole : (n i k : ℕ) (places : List ℕ) → k < n → IsAllowed needs n places
      → LacksOne needs i k places
      → places ≡ hole needs i (k + 1)
  lacks_is_hole n i k places low allowed lacks =
      let e : n ≡ (k + 1) + (n - (k + 1)) = omega (arith, low) in
      listed n places allowed ∙ ap (chosen (is_member places)) e
      ∙ chosen_on (is_member places) (k + 1) (n - (k + 1))
      (λ j from to. lacks.beyond j (omega (arith, from)))
      ∙ chosen_same (is_member places) (is_kept needs i) (k + 1)
      (λ j under. lacks.below j (omega (arith, under)))
