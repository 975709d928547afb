-- The members are the allowed sets.
use Rattle.std.proofs.Common.{◌≡◌, ℕ, zero, suc, ◌<◌, Bool, true, false, cond}
use Rattle.std.proofs.Common.{List, [], ◌∷◌, ◌++◌, refl, sym, ap, ◌∙◌, arith, ⊎_elim, length, get_or, subst, length-append}
use Rattle.std.proofs.lemmas.Bool.{cases_eq, cases_Bool}
use Rattle.std.proofs.lemmas.List.{get_or_push, get_or_append_left}
use Rattle.std.proofs.lemmas.List.Elements.{All-nil, All-cons, All-weaker, Contains-append_left, Contains-push_cases}
use Rattle.std.specs.List.{All, Contains}
use Rattle.cs_sets.specs.Chains.{IsBackward}
use Rattle.cs_sets.specs.Sets.{IsAllowed}
use Rattle.cs_sets.specs.Every.{may, choices, every}
use Rattle.cs_sets.specs.Laws.Lists.{all_flat, contains_flat, last_view}
use Rattle.cs_sets.specs.Laws.Members.{contains_has, has_contains, may_from, may_says}

-- ---- each member is allowed

module _ (needs : ℕ → ℕ → Bool) (back : IsBackward needs) where
  pub no_places : IsAllowed needs 0 []
  no_places = record {
    ascending = λ a b x y. absurd (omega (arith, y));
    in_range = λ a x. absurd (omega (arith, x));
    closed = λ a i x t. absurd (omega (arith, x));
  }

  pub stays : (k : ℕ) (places : List ℕ) → IsAllowed needs k places → IsAllowed needs (suc k) places
  stays k places allowed = record {
    ascending = allowed.ascending;
    in_range = λ a x. (let l = allowed.in_range a x in omega (arith, l));
    closed = allowed.closed;
  }

  pub joins : (k : ℕ) (places : List ℕ) → IsAllowed needs k places → may needs k places k ≡ true
      → IsAllowed needs (suc k) (places ++ k ∷ [])
  joins k places allowed is = record {
    ascending = λ a b x y. ⊎_elim
        (λ (e : b ≡ length places).
        (let l = allowed.in_range a (omega (arith, x, e)) in
        let f = get_or_push places k 0 b (sym e) in let g = get_or_append_left places (k ∷ []) 0 a
        (omega (arith, x, e)) in
        omega (arith, l, f, g)))
        (λ (e : b ≡ length places → ⊥).
        (let low : b < length places = omega (arith, y, e, length-append places (k ∷ [])) in
        let l = allowed.ascending a b x low in
        let f = get_or_append_left places (k ∷ []) 0 b low in let g = get_or_append_left places
        (k ∷ []) 0 a (omega (arith, x, low)) in
        omega (arith, l, f, g)))
        (cases_eq b (length places));
    in_range = λ a x. ⊎_elim
        (λ (e : a ≡ length places). (let f = get_or_push places k 0 a (sym e) in omega (arith, f)))
        (λ (e : a ≡ length places → ⊥).
        (let low : a < length places = omega (arith, x, e, length-append places (k ∷ [])) in
        let l = allowed.in_range a low in let f = get_or_append_left places (k ∷ []) 0 a low in
        omega (arith, l, f)))
        (cases_eq a (length places));
    closed = λ a i x t. ⊎_elim
        (λ (e : a ≡ length places).
        (let f = get_or_push places k 0 a (sym e) in
        let s : needs i k ≡ true = sym (ap (needs i) f) ∙ t in
        Contains-append_left places (k ∷ []) i (has_contains places i
        (may_says needs k places k i is (back i k s) s))))
        (λ (e : a ≡ length places → ⊥).
        (let low : a < length places = omega (arith, x, e, length-append places (k ∷ [])) in
        let f = get_or_append_left places (k ∷ []) 0 a low in
        Contains-append_left places (k ∷ []) i (allowed.closed a i low (sym (ap (needs i) f) ∙ t))))
        (cases_eq a (length places));
  }

  grown : (k : ℕ) (places : List ℕ) → IsAllowed needs k places
      → All (IsAllowed needs (suc k)) (choices needs k places)
  grown k places allowed = All-cons (IsAllowed needs (suc k)) places
      (cond (may needs k places k) ((places ++ k ∷ []) ∷ []) [])
      (stays k places allowed)
      (⊎_elim
      (λ (t : may needs k places k ≡ true). subst (λ b. All (IsAllowed needs (suc k))
      (cond b ((places ++ k ∷ []) ∷ []) [])) (sym t)
      (All-cons (IsAllowed needs (suc k)) (places ++ k ∷ []) [] (joins k places allowed t)
      (All-nil (IsAllowed needs (suc k)))))
      (λ (f : may needs k places k ≡ false). subst (λ b. All (IsAllowed needs (suc k))
      (cond b ((places ++ k ∷ []) ∷ []) [])) (sym f)
      (All-nil (IsAllowed needs (suc k))))
      (cases_Bool (may needs k places k)))

  pub each_allowed : (n : ℕ) → All (IsAllowed needs n) (every needs n)
  each_allowed zero = All-cons (IsAllowed needs 0) [] [] no_places (All-nil (IsAllowed needs 0))
  each_allowed (suc k) =
      all_flat (IsAllowed needs (suc k)) (choices needs k) (every needs k)
      (All-weaker (IsAllowed needs k) (λ places. All (IsAllowed needs (suc k))
      (choices needs k places)) (grown k) (every needs k)
      (each_allowed k))

  -- ---- each allowed set is a member

  -- an allowed set whose last place isn't k
  pub lower : (k x : ℕ) (places : List ℕ) → IsAllowed needs (suc k) (places ++ x ∷ []) → (x ≡ k → ⊥)
      → IsAllowed needs k (places ++ x ∷ [])
  lower k x places allowed ne =
      let long = length-append places (x ∷ []) in
      let last : get_or (places ++ x ∷ []) (length places) 0
      ≡ x = get_or_push places x 0 (length places) refl in
      let high = allowed.in_range (length places) (omega (arith, long)) in
      record {
        ascending = allowed.ascending;
        in_range = λ a low. ⊎_elim
            (λ (e : a ≡ length places). (let f = get_or_push places x 0 a (sym e) in omega
            (arith, f, last, high, ne)))
            (λ (e : a ≡ length places → ⊥).
            (let l = allowed.ascending a (length places) (omega (arith, low, long, e))
            (omega (arith, long)) in
            omega (arith, l, last, high)))
            (cases_eq a (length places));
        closed = allowed.closed;
      }

  -- the rest of one whose last place is k
  pub rest : (k : ℕ) (places : List ℕ) → IsAllowed needs (suc k) (places ++ k ∷ [])
      → IsAllowed needs k places
  rest k places allowed =
      let long = length-append places (k ∷ []) in
      let last : get_or (places ++ k ∷ []) (length places) 0
      ≡ k = get_or_push places k 0 (length places) refl in
      let under : (a : ℕ) → a < length places → get_or places a 0 < k = λ a low.
      (let l = allowed.ascending a (length places) low (omega (arith, long)) in
      let f = get_or_append_left places (k ∷ []) 0 a low in omega (arith, l, f, last)) in
      record {
        ascending = λ a b x y.
            let l = allowed.ascending a b x (omega (arith, y, long)) in
            let f = get_or_append_left places (k ∷ []) 0 b y in let g = get_or_append_left places
            (k ∷ []) 0 a (omega (arith, x, y)) in
            omega (arith, l, f, g);
        in_range = under;
        closed = λ a i low t.
            let f = get_or_append_left places (k ∷ []) 0 a low in
            let before = back i (get_or places a 0) t in let u = under a low in
            ⊎_elim
            (λ (c : Contains places i). c)
            (λ (e : k ≡ i). absurd (omega (arith, before, u, e)))
            (Contains-push_cases places k i (allowed.closed a i (omega (arith, low, long))
            (ap (needs i) f ∙ t)));
      }

  fits : (k : ℕ) (places : List ℕ) → IsAllowed needs (suc k) (places ++ k ∷ [])
      → may needs k places k ≡ true
  fits k places allowed =
      let long = length-append places (k ∷ []) in
      let last : get_or (places ++ k ∷ []) (length places) 0
      ≡ k = get_or_push places k 0 (length places) refl in
      may_from needs k places k (λ i low t. ⊎_elim
      (λ (c : Contains places i). contains_has places i c)
      (λ (e : k ≡ i). absurd (omega (arith, low, e)))
      (Contains-push_cases places k i (allowed.closed (length places) i (omega (arith, long))
      (ap (needs i) last ∙ t))))

  first_choice : (k : ℕ) (places : List ℕ) → Contains (choices needs k places) places
  first_choice k places = (0, omega arith, refl)

  second_choice : (k : ℕ) (places : List ℕ) → may needs k places k ≡ true
      → Contains (choices needs k places) (places ++ k ∷ [])
  second_choice k places t =
      let P : Bool → Type 0 = λ b. Contains (places ∷ cond b ((places ++ k ∷ []) ∷ []) [])
      (places ++ k ∷ []) in
      subst P (sym t) (1, omega arith, refl)

  pub none_below : (places : List ℕ) → IsAllowed needs 0 places → [] ≡ places
  none_below [] allowed = refl
  none_below (x ∷ xs) allowed = (let l = allowed.in_range 0 (omega arith) in absurd
      (omega (arith, l)))

  empty : (n : ℕ) → IsAllowed needs n []
  empty n = record {
    ascending = λ a b x y. absurd (omega (arith, y));
    in_range = λ a x. absurd (omega (arith, x));
    closed = λ a i x t. absurd (omega (arith, x));
  }

  -- one place more, by what its last place is
  has_more : (k : ℕ) → ((places : List ℕ) → IsAllowed needs k places
      → Contains (every needs k) places)
      → (places : List ℕ) (x : ℕ) → IsAllowed needs (suc k) (places ++ x ∷ [])
      → Contains (every needs (suc k)) (places ++ x ∷ [])
  has_more k before places x allowed = ⊎_elim
      (λ (e : x ≡ k).
      (let is : IsAllowed needs (suc k) (places ++ k ∷ []) = subst
      (λ v. IsAllowed needs (suc k) (places ++ v ∷ [])) e allowed in
      subst (λ v. Contains (every needs (suc k)) (places ++ v ∷ [])) (sym e)
      (contains_flat (choices needs k) (every needs k) places (places ++ k ∷ [])
      (before places (rest k places is))
      (second_choice k places (fits k places is)))))
      (λ (e : x ≡ k → ⊥).
      contains_flat (choices needs k) (every needs k) (places ++ x ∷ []) (places ++ x ∷ [])
      (before (places ++ x ∷ []) (lower k x places allowed e))
      (first_choice k (places ++ x ∷ [])))
      (cases_eq x k)

  pub has_each : (n : ℕ) (places : List ℕ) → IsAllowed needs n places
      → Contains (every needs n) places
  has_each zero places allowed = (0, omega arith, none_below places allowed)
  has_each (suc k) places allowed = ⊎_elim
      (λ (e : places ≡ []).
      subst (λ v. Contains (every needs (suc k)) v) (sym e)
      (contains_flat (choices needs k) (every needs k) [] [] (has_each k [] (empty k))
      (first_choice k [])))
      (λ (w : (ys : List ℕ) × ((y : ℕ) × (places ≡ ys ++ y ∷ []))).
      subst (λ v. Contains (every needs (suc k)) v) (sym w.1.1)
      (has_more k (has_each k) w.0 w.1.0 (subst (IsAllowed needs (suc k)) w.1.1 allowed)))
      (last_view places)
