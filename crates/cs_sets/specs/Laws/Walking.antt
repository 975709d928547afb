-- A walk from each place that a set may have to the next.
use Rattle.std.proofs.Common.{◌≡◌, ℕ, zero, suc, ◌+◌, ◌-◌, ◌<◌, ◌≤◌, ◌&&◌, not, Bool, true, false}
use Rattle.std.proofs.Common.{List, [], ◌∷◌, ◌++◌, refl, sym, ap, ◌∙◌, arith, ⊎_elim, subst}
use Rattle.std.proofs.lemmas.Bool.{cases_Bool, false≢true}
use Rattle.cs_sets.specs.Every.{may, extending, lacking, IsFuture}
use Rattle.cs_sets.specs.Finding.{HasNone, IsNext}
use Rattle.cs_sets.specs.Reach.{IsTransitive}
use Rattle.cs_sets.specs.Laws.Members.{IsBelow, may_without, may_from, may_says}
use Rattle.cs_sets.specs.Laws.Counts.{extending_with, extending_without, future_without, future_with, below_more, below_push}

-- a set of places below k, and its future
pub record IsAt (needs : ℕ → ℕ → Bool) (n k : ℕ) (places : List ℕ) (has : ℕ → Bool) : Type 0 where
  pub below : IsBelow k places
  pub future : IsFuture needs n k places has

module _ (needs : ℕ → ℕ → Bool) (chained : IsTransitive needs) (n : ℕ) where
  -- what needs a place that the set can't have is not in the future either
  not_needed : (k : ℕ) (places : List ℕ) (has : ℕ → Bool) → IsAt needs n k places has → k < n
      → has k ≡ false → (j : ℕ) → k + 1 ≤ j
      → j < n → has j ≡ true → needs k j ≡ false
  not_needed k places has at here none j high low t = ⊎_elim
      (λ (s : needs k j ≡ true).
      (let all = sym (at.future j (omega (arith, high)) low) ∙ t in
      absurd (false≢true (sym none ∙ (at.future k (omega arith) here
      ∙ may_from needs k places k (λ i l u. may_says needs k places j i all l
      (chained i k j u s)))))))
      (λ (s : needs k j ≡ false). s)
      (cases_Bool (needs k j))

  passes : (k : ℕ) (places : List ℕ) (has : ℕ → Bool) → IsAt needs n k places has → k < n → has k
      ≡ false
      → IsAt needs n (k + 1) places has
  passes k places has at here none = record {
    below = below_more k places at.below;
    future = λ j high low. ⊎_elim
        (λ (t : has j ≡ true).
        (let s = not_needed k places has at here none j high low t in
        at.future j (omega (arith, high)) low ∙ sym (and_not (may needs k places j) (needs k j) s)
        ∙ sym (may_without needs k places j at.below)))
        (λ (f : has j ≡ false).
        f ∙ sym (may_without needs k places j at.below
        ∙ ap (λ b. b && not (needs k j)) (sym (at.future j (omega (arith, high)) low) ∙ f)))
        (cases_Bool (has j));
  }
    where
      and_not : (a b : Bool) → b ≡ false → (a && not b) ≡ a
      and_not true b e = ap not e
      and_not false b e = refl

  -- places that the set can't have are passed
  pub skips : (d k : ℕ) (places : List ℕ) (has : ℕ → Bool) → k + d ≤ n → IsAt needs n k places has
      → HasNone has k (k + d)
      → (extending needs (n - k) k places ≡ extending needs (n - (k + d)) (k + d) places)
      × IsAt needs n (k + d) places has
  skips zero k places has fits at none =
      let e : k ≡ k + 0 = omega arith in
      (ap (λ v. extending needs (n - v) v places) e, subst (λ v. IsAt needs n v places has) e at)
  skips (suc d) k places has fits at none =
      let here = none k (omega arith) (omega arith) in
      let rest = skips d (k + 1) places has (omega (arith, fits))
      (passes k places has at (omega (arith, fits)) here)
      (λ i l u. none i (omega (arith, l)) (omega (arith, u))) in
      let e : (k + 1) + d ≡ k + suc d = omega arith in
      let m : n - k ≡ suc (n - (k + 1)) = omega (arith, fits) in (
        ap (λ v. extending needs v k places) m
            ∙ extending_without needs (n - (k + 1)) k places
            (sym (at.future k (omega arith) (omega (arith, fits))) ∙ here)
            ∙ rest.0 ∙ ap (λ v. extending needs (n - v) v places) e,
        subst (λ v. IsAt needs n v places has) e rest.1,
      )

  pub ends : (k : ℕ) (places : List ℕ) (has : ℕ → Bool) → k ≤ n → IsAt needs n k places has
      → HasNone has k n
      → extending needs (n - k) k places ≡ places ∷ []
  ends k places has fits at none =
      let e : k + (n - k) ≡ n = omega (arith, fits) in
      let z : n - (k + (n - k)) ≡ 0 = omega (arith, fits) in
      (skips (n - k) k places has (omega (arith, fits)) at
      (λ i l u. none i l (omega (arith, u, e)))).0
      ∙ ap (λ v. extending needs v (k + (n - k)) places) z

  pub record IsStep (k j : ℕ) (places : List ℕ) (has : ℕ → Bool) : Type 0 where
    pub sets : extending needs (n - k) k places
        ≡ extending needs (n - (j + 1)) (j + 1) places ++ extending needs (n - (j + 1)) (j + 1)
        (places ++ j ∷ [])
    pub without : IsAt needs n (j + 1) places (lacking needs j has)
    pub «with» : IsAt needs n (j + 1) (places ++ j ∷ []) has

  pub steps : (k j : ℕ) (places : List ℕ) (has : ℕ → Bool) → IsAt needs n k places has
      → IsNext has k n j → IsStep k j places has
  steps k j places has at next =
      let from = next.from_first in let to = next.before_end in
      let e : k + (j - k) ≡ j = omega (arith, from) in
      let moved = skips (j - k) k places has (omega (arith, from, to)) at
      (λ i l u. next.none_before i l (omega (arith, u, e))) in
      let here : IsAt needs n j places has = subst (λ v. IsAt needs n v places has) e moved.1 in
      let m : n - j ≡ suc (n - (j + 1)) = omega (arith, to) in
      record {
        sets = moved.0 ∙ ap (λ v. extending needs (n - v) v places) e
            ∙ ap (λ v. extending needs v j places) m
            ∙ extending_with needs (n - (j + 1)) j places
            (sym (here.future j (omega arith) to) ∙ next.is_there);
        without = record {
          below = below_more j places here.below;
          future = future_without needs n j places has here.below here.future;
        };
        «with» = record {
          below = below_push j places here.below;
          future = future_with needs n j
              places has here.future;
        };
      }
