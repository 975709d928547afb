-- The classes, place by place, are those of all members.
use Rattle.std.proofs.Common.{◌≡◌, ℕ, zero, suc, ◌+◌, ◌-◌, ◌<◌, ◌≤◌, ◌&&◌, not, Bool, true, false, cond}
use Rattle.std.proofs.Common.{List, [], ◌∷◌, ◌++◌, refl, sym, ap, ◌∙◌, arith, ⊎_elim, subst, ◌⊎◌, inl, inr}
use Rattle.std.proofs.lemmas.Bool.{cases_Bool, false≢true, and_parts, and_from, or_left, or_right}
use Rattle.std.proofs.lemmas.List.Elements.{All-weaker}
use Rattle.std.proofs.lemmas.List.Sums.{fold_push}
use Rattle.std.specs.List.{Contains, flat_map, list_any}
use Rattle.cs_sets.specs.Chains.{IsBackward}
use Rattle.cs_sets.specs.Sets.{IsAllowed}
use Rattle.cs_sets.specs.Every.{may, choices, every}
use Rattle.cs_sets.specs.Different.{IsLike, firsts, state_of, same_answer, same_future, one_class, classes}
use Rattle.cs_sets.specs.Laws.Lists.{all_of_range, at_of_range, flat_single}
use Rattle.cs_sets.specs.Laws.Members.{IsBelow, allowed_below, may_without, may_with}
use Rattle.cs_sets.specs.Laws.Complete.{each_allowed}
use Rattle.cs_sets.specs.Laws.Firsts.{pruned}

answer_itself : (a : Bool) → same_answer a a ≡ true
answer_itself true = refl
answer_itself false = refl

pub answer_is : (a b : Bool) → same_answer a b ≡ true → a ≡ b
answer_is true b t = sym t
answer_is false true t = absurd (false≢true t)
answer_is false false t = refl

pub answer_from : (a b : Bool) → a ≡ b → same_answer a b ≡ true
answer_from a b e = ap (same_answer a) (sym e) ∙ answer_itself a

pub future_from : (needs : ℕ → ℕ → Bool) (n k : ℕ) (a b : List ℕ)
    → ((j : ℕ) → k ≤ j → j < n → may needs k a j ≡ may needs k b j)
    → same_future needs n k a b ≡ true
unfolding same_future
future_from needs n k a b h = all_of_range (λ j. same_answer (may needs k a j) (may needs k b j)) k
    (n - k)
    (λ j l u. answer_from (may needs k a j) (may needs k b j) (h j l (omega (arith, l, u))))

pub future_says : (needs : ℕ → ℕ → Bool) (n k : ℕ) (a b : List ℕ) → same_future needs n k a b ≡ true
    → (j : ℕ) → k ≤ j → j < n
    → may needs k a j ≡ may needs k b j
unfolding same_future
future_says needs n k a b t j l u = answer_is (may needs k a j) (may needs k b j)
    (at_of_range (λ i. same_answer (may needs k a i) (may needs k b i)) k (n - k) j t l
    (omega (arith, l, u)))

module _ {S : Type 0} (same : S → S → Bool) (act : S → ℕ → S) (start : S) (is : IsLike same)
    (acts : (s t : S) (k : ℕ) → same s t ≡ true → same (act s k) (act t k) ≡ true)
    (needs : ℕ → ℕ → Bool) (n : ℕ) where
  abbrev class : ℕ → List ℕ → List ℕ → Bool
  class k = one_class same act start needs n k

  abbrev state : List ℕ → S
  state = state_of act start

  pub class_is_like : (k : ℕ) → IsLike (class k)
  class_is_like k = record {
    itself = λ x. and_from (same (state x) (state x)) (same_future needs n k x x)
        (is.itself (state x))
        (future_from needs n k x x (λ j l u. refl));
    passes_on = λ x y z p q.
        let a = and_parts (same (state x) (state y)) (same_future needs n k x y) p in
        let b = and_parts (same (state y) (state z)) (same_future needs n k y z) q in
        and_from (same (state x) (state z)) (same_future needs n k x z)
        (is.passes_on (state x) (state y) (state z) a.0 b.0)
        (future_from needs n k x z (λ j l u. future_says needs n k x y a.1 j l u
        ∙ future_says needs n k y z b.1 j l u));
  }

  -- two of one class are extended alike
  without_alike : (k : ℕ) (a b : List ℕ) → IsBelow k a → IsBelow k b → class k a b ≡ true
      → class (suc k) a b ≡ true
  without_alike k a b low high t =
      let parts = and_parts (same (state a) (state b)) (same_future needs n k a b) t in
      let e : suc k ≡ k + 1 = omega arith in
      and_from (same (state a) (state b)) (same_future needs n (suc k) a b) parts.0
      (future_from needs n (suc k) a b (λ j l u.
      ap (λ v. may needs v a j) e ∙ may_without needs k a j low
      ∙ ap (λ v. v && not (needs k j)) (future_says needs n k a b parts.1 j (omega (arith, l)) u)
      ∙ sym (may_without needs k b j high) ∙ ap (λ v. may needs v b j) (sym e)))

  with_alike : (k : ℕ) (a b : List ℕ) → class k a b ≡ true
      → class (suc k) (a ++ k ∷ []) (b ++ k ∷ []) ≡ true
  with_alike k a b t =
      let parts = and_parts (same (state a) (state b)) (same_future needs n k a b) t in
      let e : suc k ≡ k + 1 = omega arith in
      and_from (same (state (a ++ k ∷ [])) (state (b ++ k ∷ [])))
      (same_future needs n (suc k) (a ++ k ∷ []) (b ++ k ∷ []))
      (ap (λ v. same v (state (b ++ k ∷ []))) (fold_push act start a k)
      ∙ ap (λ v. same (act (state a) k) v) (fold_push act start b k)
      ∙ acts (state a) (state b) k parts.0)
      (future_from needs n (suc k) (a ++ k ∷ []) (b ++ k ∷ []) (λ j l u.
      ap (λ v. may needs v (a ++ k ∷ []) j) e ∙ may_with needs k a j
      ∙ future_says needs n k a b parts.1 j (omega (arith, l)) u
      ∙ sym (may_with needs k b j) ∙ ap (λ v. may needs v (b ++ k ∷ []) j) (sym e)))

  pub choice_cases : (k : ℕ) (b z : List ℕ) → Contains (choices needs k b) z
      → (b ≡ z) ⊎ ((may needs k b k ≡ true) × (b ++ k ∷ [] ≡ z))
  choice_cases k b z c = ⊎_elim
      (λ (t : may needs k b k ≡ true). two t (subst (λ v. Contains
      (b ∷ cond v ((b ++ k ∷ []) ∷ []) []) z) t c))
      (λ (f : may needs k b k ≡ false). one (subst (λ v. Contains
      (b ∷ cond v ((b ++ k ∷ []) ∷ []) []) z) f c))
      (cases_Bool (may needs k b k))
    where
      one : Contains (b ∷ []) z → (b ≡ z) ⊎ ((may needs k b k ≡ true) × (b ++ k ∷ [] ≡ z))
      one (zero, low, e) = inl e
      one (suc i, low, e) = absurd (omega (arith, low))

      two : may needs k b k ≡ true → Contains (b ∷ (b ++ k ∷ []) ∷ []) z
          → (b ≡ z) ⊎ ((may needs k b k ≡ true) × (b ++ k ∷ [] ≡ z))
      two t (zero, low, e) = inl e
      two t (suc zero, low, e) = inr (t, e)
      two t (suc (suc i), low, e) = absurd (omega (arith, low))

  pub follows : (k : ℕ) → k < n → (a b : List ℕ) → IsBelow k a → IsBelow k b → class k a b ≡ true
      → (z : List ℕ) → Contains (choices needs k b) z
      → list_any (λ w. class (suc k) w z) (choices needs k a) ≡ true
  follows k low a b la lb t z c = ⊎_elim
      (λ (e : b ≡ z). or_left (class (suc k) a z) (list_any (λ w. class (suc k) w z)
      (cond (may needs k a k) ((a ++ k ∷ []) ∷ []) []))
      (ap (class (suc k) a) (sym e) ∙ without_alike k a b la lb t))
      (λ (w : (may needs k b k ≡ true) × (b ++ k ∷ [] ≡ z)).
      (let parts = and_parts (same (state a) (state b)) (same_future needs n k a b) t in
      let here : may needs k a k ≡ true = future_says needs n k a b parts.1 k (omega arith) low
      ∙ w.0 in
      or_right (class (suc k) a z) (list_any (λ v. class (suc k) v z)
      (cond (may needs k a k) ((a ++ k ∷ []) ∷ []) []))
      (ap (λ v. list_any (λ u. class (suc k) u z) (cond v ((a ++ k ∷ []) ∷ []) [])) here
      ∙ or_left (class (suc k) (a ++ k ∷ []) z) false
      (ap (class (suc k) (a ++ k ∷ [])) (sym w.1) ∙ with_alike k a b t))))
      (choice_cases k b z c)

  -- place by place, or of all members at the end: the same sets
  pub classes_are : IsBackward needs → (k : ℕ) → k ≤ n → classes same act start needs n k
      ≡ firsts (class k) (every needs k)
  classes_are back zero low = refl
  classes_are back (suc k) low =
      ap (λ v. firsts (class (suc k)) (flat_map (choices needs k) v))
      (classes_are back k (omega (arith, low)))
      ∙ pruned (IsBelow k) (class k) (class (suc k)) (class_is_like (suc k)) (choices needs k)
      (follows k (omega (arith, low))) (every needs k)
      (All-weaker (IsAllowed needs k) (IsBelow k) (allowed_below needs k) (every needs k)
      (each_allowed needs back k))

  -- ---- the different ones, by a coarser test of what is left in the end
  module _ (like : S → S → Bool) (fine : IsLike like)
      (coarser : (s t : S) → same s t ≡ true → like s t ≡ true) where
    abbrev leaves : List ℕ → List ℕ → Bool
    leaves a b = like (state a) (state b)

    leaves_is_like : IsLike leaves
    leaves_is_like = record {
      itself = λ x. fine.itself (state x);
      passes_on = λ x y z p q. fine.passes_on (state x) (state y) (state z) p q;
    }

    single : (a b : List ℕ) → IsBelow n a → IsBelow n b → class n a b ≡ true → (z : List ℕ)
        → Contains (b ∷ []) z
        → list_any (λ w. leaves w z) (a ∷ []) ≡ true
    single a b la lb t z (zero, low, e) =
        or_left (leaves a z) false (ap (leaves a) (sym e)
        ∙ coarser (state a) (state b) (and_parts (same (state a) (state b))
        (same_future needs n n a b) t).0)
    single a b la lb t z (suc i, low, e) = absurd (omega (arith, low))

    pub different_are : IsBackward needs → firsts leaves (classes same act start needs n n)
        ≡ firsts leaves (every needs n)
    different_are back =
        ap (firsts leaves) (classes_are back n (omega arith))
        ∙ ap (firsts leaves) (sym (flat_single (firsts (class n) (every needs n))))
        ∙ pruned (IsBelow n) (class n) leaves leaves_is_like (λ x. x ∷ []) single (every needs n)
        (All-weaker (IsAllowed needs n) (IsBelow n) (allowed_below needs n) (every needs n)
        (each_allowed needs back n))
        ∙ ap (firsts leaves) (flat_single (every needs n))
