-- How many of an ascending list are below a number.
use Rattle.std.proofs.Common.{◌≡◌, ◌≢◌, ◌⊎◌, ℕ, zero, suc, ◌+◌, ◌-◌, ◌<◌, ◌≤◌, min, nat_lt, Bool, cond, List, [], ◌∷◌, refl, sym, ap, ◌∙◌}
use Rattle.std.proofs.Common.{subst, arith, ⊎_elim, inl, inr, length, take, drop, get_or, length-drop}
use Rattle.std.proofs.lemmas.Bool.{cases_eq, cases_lt, lt-ltb, le-ltb}
use Rattle.std.proofs.lemmas.List.{get_or-drop, get_or-take, length-take-le}
use Rattle.std.proofs.lemmas.List.Sorted.{IsNonDecreasingBy-drop, IsNonDecreasingBy-take}
use Rattle.std.specs.List.Sorted.{IsNonDecreasingBy}
use Rattle.cs_state.specs.declared.numbers.Own.{Own}
use Rattle.cs_state.specs.Numbers.{count_with_key_below, empty_own, own_in_place, kept_at, number_in, IsKept, IsMerge, IsOwn}

module _ {X : Type 0} (f : X → ℕ) where
  abbrev bit : Bool → ℕ
  bit b = cond b 1 0

  one_below : (x : X) (y : ℕ) → f x < y → bit (nat_lt (f x) y) ≡ 1
  one_below x y lt = ap bit (lt-ltb (f x) y lt)

  none_below : (x : X) (y : ℕ) → y ≤ f x → bit (nat_lt (f x) y) ≡ 0
  none_below x y le = ap bit (le-ltb (f x) y le)

  pub below_length : (xs : List X) (y : ℕ) → count_with_key_below f xs y ≤ length xs
  below_length [] y = omega arith
  below_length (x ∷ xs) y = ⊎_elim
      (λ (lt : f x < y). (let a = one_below x y lt in let b = below_length xs y in omega (arith, a, b)))
      (λ (le : y ≤ f x). (let a = none_below x y le in let b = below_length xs y in omega (arith, a, b)))
      (cases_lt (f x) y)

  pub below_mono : (xs : List X) (y z : ℕ) → y ≤ z → count_with_key_below f xs y ≤ count_with_key_below f xs z
  below_mono [] y z h = omega arith
  below_mono (x ∷ xs) y z h = ⊎_elim
      (λ (lt : f x < y).
      (let a = one_below x y lt in let c = one_below x z (omega (arith, lt, h)) in let b = below_mono xs y z h in
      omega (arith, a, b, c)))
      (λ (le : y ≤ f x). (let a = none_below x y le in let b = below_mono xs y z h in omega (arith, a, b)))
      (cases_lt (f x) y)

  -- those below y are the first k
  pub below_split : (xs : List X) (d : X) (y k : ℕ) → k ≤ length xs → ((j : ℕ) → j < k → f (get_or xs j d) < y)
      → ((j : ℕ) → k ≤ j → j < length xs → y ≤ f (get_or xs j d)) → count_with_key_below f xs y ≡ k
  below_split [] d y k long low high = omega (arith, long)
  below_split (x ∷ xs) d y zero long low high =
      (let a = none_below x y (high 0 (omega arith) (omega arith)) in let b =
      below_split xs d y 0 (omega arith) (λ j h. absurd (omega (arith, h))) (λ j l h. high (suc j) (omega arith) (omega (arith, h))) in
      omega (arith, a, b))
  below_split (x ∷ xs) d y (suc k) long low high =
      (let a = one_below x y (low 0 (omega arith)) in let b =
      below_split xs d y k (omega (arith, long)) (λ j h. low (suc j) (omega (arith, h)))
      (λ j l h. high (suc j) (omega (arith, l)) (omega (arith, h))) in omega (arith, a, b))

  -- if the list ascends, so many are below the k-th
  pub below_at : (xs : List X) (d : X) → ((i j : ℕ) → i < j → j < length xs → f (get_or xs i d) < f (get_or xs j d)) → (k : ℕ)
      → k < length xs → count_with_key_below f xs (f (get_or xs k d)) ≡ k
  below_at xs d up k low = below_split xs d (f (get_or xs k d)) k (omega (arith, low)) (λ j h. up j k h low) (λ j l h. ⊎_elim
      (λ (e : j ≡ k). (let s : f (get_or xs j d) ≡ f (get_or xs k d) = ap (λ v. f (get_or xs v d)) e in omega (arith, s)))
      (λ (e : j ≢ k). (let s = up k j (omega (arith, l, e)) h in omega (arith, s)))
      (cases_eq j k))

  -- all are below y
  pub below_all : (xs : List X) (d : X) (y : ℕ) → ((k : ℕ) → k < length xs → f (get_or xs k d) < y)
      → count_with_key_below f xs y ≡ length xs
  below_all xs d y low = below_split xs d y (length xs) (omega arith) low (λ j le less. absurd (omega (arith, le, less)))

  -- none is below zero
  below_zero : (xs : List X) → count_with_key_below f xs 0 ≡ 0
  below_zero [] = refl
  below_zero (x ∷ xs) = (let a = none_below x 0 (omega arith) in let b = below_zero xs in omega (arith, a, b))

  -- none of them is y
  pub below_past : (xs : List X) (d : X) (y : ℕ) → ((k : ℕ) → k < length xs → f (get_or xs k d) ≢ y)
      → count_with_key_below f xs (suc y) ≡ count_with_key_below f xs y
  below_past [] d y other = refl
  below_past (x ∷ xs) d y other =
      let rest = below_past xs d y (λ k low. other (suc k) (omega (arith, low))) in
      ⊎_elim
      (λ (lt : f x < y). (let a = one_below x y lt in let b = one_below x (suc y) (omega (arith, lt)) in omega (arith, a, b, rest)))
      (λ (le : y ≤ f x).
      (let ne = other 0 (omega arith) in let a = none_below x y le in let b = none_below x (suc y) (omega (arith, le, ne)) in
      omega (arith, a, b, rest)))
      (cases_lt (f x) y)

  -- if the list ascends, at most one is y
  below_step : (xs : List X) (d : X) → ((i j : ℕ) → i < j → j < length xs → f (get_or xs i d) < f (get_or xs j d)) → (y : ℕ)
      → count_with_key_below f xs (suc y) ≤ suc (count_with_key_below f xs y)
  below_step [] d up y = omega arith
  below_step (x ∷ xs) d up y = ⊎_elim
      (λ (same : f x ≡ y).
      (let a = one_below x (suc y) (omega (arith, same)) in
      let b = below_past xs d y (λ k low e. (let s = up 0 (suc k) (omega arith) (omega (arith, low)) in omega (arith, s, same, e))) in
      omega (arith, a, b)))
      (λ (ne : f x ≢ y).
      let rest = below_step xs d (λ i j lt low. up (suc i) (suc j) (omega (arith, lt)) (omega (arith, low))) y in
      ⊎_elim
      (λ (lt : f x < y). (let a = one_below x y lt in let b = one_below x (suc y) (omega (arith, lt)) in omega (arith, a, b, rest)))
      (λ (le : y ≤ f x). (let a = none_below x y le in let b = none_below x (suc y) (omega (arith, le, ne)) in omega (arith, a, b, rest)))
      (cases_lt (f x) y))
      (cases_eq (f x) y)

  -- one of them is y, or none is
  has_or_not : (xs : List X) (d : X) (y : ℕ) → ((k : ℕ) × (k < length xs) × (f (get_or xs k d) ≡ y))
      ⊎ ((k : ℕ) → k < length xs → f (get_or xs k d) ≢ y)
  has_or_not [] d y = inr (λ k low. absurd (omega (arith, low)))
  has_or_not (x ∷ xs) d y = ⊎_elim
      (λ (same : f x ≡ y). inl (0, omega arith, same))
      (λ (ne : f x ≢ y). ⊎_elim
      (λ (w : (k : ℕ) × (k < length xs) × (f (get_or xs k d) ≡ y)). (let low = w.1 in inl (suc w.0, omega (arith, low), w.2)))
      (λ (others : (k : ℕ) → k < length xs → f (get_or xs k d) ≢ y). inr (both ne others))
      (has_or_not xs d y))
      (cases_eq (f x) y)
    where
      both : f x ≢ y → ((k : ℕ) → k < length xs → f (get_or xs k d) ≢ y) → (k : ℕ) → k < length (x ∷ xs) → f (get_or (x ∷ xs) k d) ≢ y
      both ne others zero low = ne
      both ne others (suc k) low = others k (omega (arith, low))

  -- what is above the k-th has it and those before it below
  pub below_above : (xs : List X) (d : X) → ((i j : ℕ) → i < j → j < length xs → f (get_or xs i d) < f (get_or xs j d)) → (k y : ℕ)
      → k < length xs → f (get_or xs k d) < y → k < count_with_key_below f xs y
  below_above xs d up k y low lt = strict xs k low lt (below_at xs d up k low)
    where
      strict : (xs : List X) (k : ℕ) → k < length xs → f (get_or xs k d) < y → count_with_key_below f xs (f (get_or xs k d)) ≡ k
          → k < count_with_key_below f xs y
      strict xs k low lt is = (let s = more xs k low lt in omega (arith, s, is))
        where
          more : (xs : List X) (k : ℕ) → k < length xs → f (get_or xs k d) < y
              → count_with_key_below f xs (f (get_or xs k d)) < count_with_key_below f xs y
          more [] k low lt = absurd (omega (arith, low))
          more (x ∷ xs) zero low lt =
              (let a = none_below x (f x) (omega arith) in let b = one_below x y lt in let c = below_mono xs (f x) y (omega (arith, lt)) in
              omega (arith, a, b, c))
          more (x ∷ xs) (suc k) low lt = ⊎_elim
              (λ (l : f x < f (get_or xs k d)).
              (let a = one_below x (f (get_or xs k d)) l in let b = one_below x y (omega (arith, l, lt)) in let c =
              more xs k (omega (arith, low)) lt in omega (arith, a, b, c)))
              (λ (l : f (get_or xs k d) ≤ f x).
              (let a = none_below x (f (get_or xs k d)) l in let c = more xs k (omega (arith, low)) lt in omega (arith, a, c)))
              (cases_lt (f x) (f (get_or xs k d)))

same_read : (xs : List Own) (i : ℕ) (d e : Own) → i < length xs → get_or xs i d ≡ get_or xs i e
same_read [] i d e low = absurd (omega (arith, low))
same_read (x ∷ xs) zero d e low = refl
same_read (x ∷ xs) (suc i) d e low = same_read xs i d e (omega (arith, low))

at_any : (xs : List Own) (d : Own) (f : Own → ℕ) (i j : ℕ) → i ≤ j → j < length xs
    → ((i j : ℕ) → i < j → j < length xs → f (own_in_place xs i) < f (own_in_place xs j)) → f (get_or xs i d) ≤ f (get_or xs j d)
at_any xs d f i j le low up = ⊎_elim
    (λ (e : i ≡ j). (let s : f (get_or xs i d) ≡ f (get_or xs j d) = ap (λ v. f (get_or xs v d)) e in omega (arith, s)))
    (λ (e : i ≢ j). (let s = up i j (omega (arith, le, e)) low in
    let a : f (get_or xs i d) ≡ f (own_in_place xs i) = ap f (same_read xs i d empty_own (omega (arith, le, low))) in
    let b : f (get_or xs j d) ≡ f (own_in_place xs j) = ap f (same_read xs j d empty_own low) in
    omega (arith, s, a, b)))
    (cases_eq i j)

-- those found below an id are all below it
pub own_split : (own : List Own) (id a : ℕ) → a ≤ length own → ((k : ℕ) → k < a → (own_in_place own k).id < id)
    → ((k : ℕ) → a ≤ k → k < length own → id ≤ (own_in_place own k).id) → count_with_key_below (λ (o : Own). o.id) own id ≡ a
own_split own id a bound low high = below_split (λ (o : Own). o.id) own empty_own id a bound low high

module _ (kept : List ℕ) (own : List Own) (h : IsMerge kept own) where
  abbrev kept_below : ℕ → ℕ
  kept_below y = count_with_key_below (λ k. k) kept y

  -- numbers ascend with the ids
  numbers_up : (i j : ℕ) → i < j → j < length own → (own_in_place own i).number < (own_in_place own j).number
  numbers_up i j lt low =
      (let a = h.numbered i (omega (arith, lt, low)) in let b = h.numbered j low in let ids = h.own_up i j lt low in let c =
      below_mono (λ k. k) kept (own_in_place own i).id (own_in_place own j).id (omega (arith, ids)) in omega (arith, a, b, c))

  -- at any default, as a search asks
  pub numbers_rise : IsNonDecreasingBy (λ (o : Own). o.number) own
  numbers_rise i j d le low = at_any own d (λ o. o.number) i j le low (λ x y lt l. numbers_up x y lt l)

  pub ids_rise : IsNonDecreasingBy (λ (o : Own). o.id) own
  ids_rise i j d le low = at_any own d (λ o. o.id) i j le low (λ x y lt l. h.own_up x y lt l)

  pub own_number : (j : ℕ) → j < length own → number_in kept own (own_in_place own j).id ≡ (own_in_place own j).number
  own_number j low = (let a = h.numbered j low in let b = below_at (λ (o : Own). o.id) own empty_own h.own_up j low in omega (arith, a, b))

  -- ---- how many can be below a number, and below an id

  pub least_numbers : (n k : ℕ) → k < n - length kept → k < length own → (own_in_place own k).number < n
  least_numbers n k less low =
      (let a = h.numbered k low in let b = below_length (λ k. k) kept (own_in_place own k).id in omega (arith, a, b, less))

  pub most_numbers : (n k : ℕ) → n ≤ k → k < length own → n ≤ (own_in_place own k).number
  most_numbers n k high low = (let a = h.numbered k low in omega (arith, a, high))

  number_step : (y : ℕ) → number_in kept own (suc y) ≤ suc (number_in kept own y)
  number_step y = ⊎_elim
      (λ (w : (k : ℕ) × (k < length kept) × (kept_at kept k ≡ y)).
      (let a = below_step (λ k. k) kept 0 h.kept_up y in
      let b = below_past (λ (o : Own). o.id) own empty_own y (λ j low e. h.apart w.0 j w.1 low (w.2 ∙ sym e)) in
      omega (arith, a, b)))
      (λ (others : (k : ℕ) → k < length kept → kept_at kept k ≢ y).
      (let a = below_past (λ k. k) kept 0 y others in
      let b = below_step (λ (o : Own). o.id) own empty_own h.own_up y in
      omega (arith, a, b)))
      (has_or_not (λ k. k) kept 0 y)

  number_steps : (y n z : ℕ) → z ≡ n + y → number_in kept own z ≤ n + number_in kept own y
  number_steps y zero z is = (let same : z ≡ y = omega (arith, is) in let e = ap (number_in kept own) same in omega (arith, e))
  number_steps y (suc n) z is =
      (let same : z ≡ suc (n + y) = omega (arith, is) in
      let e = ap (number_in kept own) same in
      let a = number_step (n + y) in
      let b = number_steps y n (n + y) (omega arith) in
      omega (arith, e, a, b))

  -- so many come before an id
  number_fits : (id : ℕ) → number_in kept own id ≤ id
  number_fits zero = (let a = below_zero (λ k. k) kept in let b = below_zero (λ (o : Own). o.id) own in omega (arith, a, b))
  number_fits (suc id) = (let a = number_step id in let b = number_fits id in omega (arith, a, b))

  pub kept_fits : (id : ℕ) → kept_below id ≤ id
  kept_fits id = (let a = number_fits id in omega (arith, a))

  pub most_ids : (id k : ℕ) → id - kept_below id ≤ k → k < length own → id ≤ (own_in_place own k).id
  most_ids id k high low = ⊎_elim
      (λ (lt : (own_in_place own k).id < id). absurd
      (let a = below_above (λ (o : Own). o.id) own empty_own h.own_up k id low lt in let b = number_fits id in
      omega (arith, a, b, high)))
      (λ (le : id ≤ (own_in_place own k).id). le)
      (cases_lt (own_in_place own k).id id)

  pub least_ids : (n id k : ℕ) → id < n → ((j : ℕ) → j < length kept → kept_at kept j < n)
      → ((j : ℕ) → j < length own → (own_in_place own j).id < n)
      → k < length own - (n - id - (length kept - kept_below id)) → k < length own → (own_in_place own k).id < id
  least_ids n id k there kept_low own_low less low = ⊎_elim
      (λ (lt : (own_in_place own k).id < id). lt)
      (λ (le : id ≤ (own_in_place own k).id). absurd (
      let before = below_mono (λ (o : Own). o.id) own id (own_in_place own k).id le in
      let place = below_at (λ (o : Own). o.id) own empty_own h.own_up k low in
      let steps = number_steps id (n - id) n (omega (arith, there)) in
      let a = below_all (λ k. k) kept 0 n kept_low in
      let b = below_all (λ (o : Own). o.id) own empty_own n own_low in
      let fits = below_length (λ k. k) kept id in
      omega (arith, before, place, steps, a, b, fits, less, low, there)))
      (cases_lt (own_in_place own k).id id)

  module _ (n a : ℕ) (bound : a ≤ length own) (low : (k : ℕ) → k < a → (own_in_place own k).number < n)
      (high : (k : ℕ) → a ≤ k → k < length own → n ≤ (own_in_place own k).number) where
    pub before_fits : a ≤ n
    before_fits = fits a low bound
      where
        fits : (a : ℕ) → ((k : ℕ) → k < a → (own_in_place own k).number < n) → a ≤ length own → a ≤ n
        fits zero low bound = omega arith
        fits (suc b) low bound = (let s = low b (omega arith) in let t = h.numbered b (omega (arith, bound)) in omega (arith, s, t))

    module _ (other : a < length own → (own_in_place own a).number ≢ n) where
      past : a < length own → n < (own_in_place own a).number
      past lt = (let s = high a (omega arith) lt in let t = other lt in omega (arith, s, t))

      -- none is left
      pub past_all : length kept ≤ n - a → length kept + length own ≤ n
      past_all long = ⊎_elim
          (λ (lt : a < length own). absurd
          (let s = past lt in let t = h.numbered a lt in let u = below_length (λ k. k) kept (own_in_place own a).id in let v =
          before_fits in omega (arith, s, t, u, v, long)))
          (λ (ge : length own ≤ a). (let v = before_fits in omega (arith, ge, v, long, bound)))
          (cases_lt a (length own))

      -- a kept one
      pub kept_number : n - a < length kept → number_in kept own (kept_at kept (n - a)) ≡ n
      kept_number lower =
          (let fits = before_fits in
          let place = below_at (λ k. k) kept 0 h.kept_up (n - a) lower in
          let split =
          below_split (λ (o : Own). o.id) own empty_own (kept_at kept (n - a)) a bound (λ j lt. before_ids a j lt bound low fits lower)
          (λ j le lt. after_ids j le lt) in
          omega (arith, place, split, fits))
        where
          before_ids : (a j : ℕ) → j < a → a ≤ length own → ((k : ℕ) → k < a → (own_in_place own k).number < n) → a ≤ n
              → n - a < length kept → (own_in_place own j).id < kept_at kept (n - a)
          before_ids zero j lt bound low fits lower = absurd (omega (arith, lt))
          before_ids (suc b) j lt bound low fits lower = ⊎_elim
              (λ (l : (own_in_place own b).id < kept_at kept (n - suc b)). ⊎_elim
              (λ (e : j ≡ b). subst (λ v. (own_in_place own v).id < kept_at kept (n - suc b)) (sym e) l)
              (λ (e : j ≢ b). (let s = h.own_up j b (omega (arith, lt, e)) (omega (arith, bound)) in omega (arith, s, l)))
              (cases_eq j b))
              (λ (g : kept_at kept (n - suc b) ≤ (own_in_place own b).id). absurd (
              let ne = h.apart (n - suc b) b lower (omega (arith, bound)) in
              let up = below_above (λ k. k) kept 0 h.kept_up (n - suc b) (own_in_place own b).id lower (omega (arith, g, ne)) in
              let s = low b (omega arith) in let t = h.numbered b (omega (arith, bound)) in
              omega (arith, up, s, t, fits)))
              (cases_lt (own_in_place own b).id (kept_at kept (n - suc b)))

          after_ids : (j : ℕ) → a ≤ j → j < length own → kept_at kept (n - a) ≤ (own_in_place own j).id
          after_ids j le lt = ⊎_elim
              (λ (l : (own_in_place own a).id < kept_at kept (n - a)). absurd (
              let low_a : a < length own = omega (arith, le, lt) in
              let s = past low_a in let t = h.numbered a low_a in
              let place = below_at (λ k. k) kept 0 h.kept_up (n - a) lower in
              let up = below_mono (λ k. k) kept (own_in_place own a).id (kept_at kept (n - a)) (omega (arith, l)) in
              let fits = before_fits in
              omega (arith, s, t, place, up, fits)))
              (λ (g : kept_at kept (n - a) ≤ (own_in_place own a).id). ⊎_elim
              (λ (e : j ≡ a). subst (λ v. kept_at kept (n - a) ≤ (own_in_place own v).id) (sym e) g)
              (λ (e : j ≢ a). (let s = h.own_up a j (omega (arith, le, e)) lt in omega (arith, s, g)))
              (cases_eq j a))
              (cases_lt (own_in_place own a).id (kept_at kept (n - a)))

-- ---- a search in a part of the list

module _ (f : Own → ℕ) (own : List Own) (least most end from y r : ℕ) (is_end : end ≡ min (length own) most)
    (is_from : from ≡ min end least)
    (before : (k : ℕ) → k < least → k < length own → f (own_in_place own k) < y)
    (behind : (k : ℕ) → most ≤ k → k < length own → y ≤ f (own_in_place own k)) where
  abbrev part : List Own
  part = take (end - from) (drop from own)

  part_at : (k : ℕ) → k < end - from → own_in_place part k ≡ own_in_place own (from + k)
  part_at k low = get_or-take (end - from) (drop from own) k empty_own low ∙ get_or-drop from own k empty_own

  pub part_long : length part ≡ end - from
  part_long = length-take-le (end - from) (drop from own) (let d = length-drop from own in omega (arith, d, is_end))

  pub part_rises : IsNonDecreasingBy f own → IsNonDecreasingBy f part
  part_rises rising = IsNonDecreasingBy-take f (end - from) (drop from own) (IsNonDecreasingBy-drop f from own rising)

  pub low_in : ((k : ℕ) → k < r → f (own_in_place part k) < y) → r ≤ length part → (k : ℕ) → k < from + r → f (own_in_place own k) < y
  low_in found bound k low = ⊎_elim
      (λ (first : k < from). before k (omega (arith, first, is_from)) (omega (arith, first, is_from, is_end)))
      (λ (ge : from ≤ k).
      let long = part_long in
      let inside : k - from < r = omega (arith, ge, low) in
      let same = part_at (k - from) (omega (arith, inside, bound, long)) in
      let back : from + (k - from) ≡ k = omega (arith, ge) in
      subst (λ j. f (own_in_place own j) < y) back (subst (λ o. f o < y) same (found (k - from) inside)))
      (cases_lt k from)

  pub high_in : ((k : ℕ) → r ≤ k → k < length part → y ≤ f (own_in_place part k)) → (k : ℕ) → from + r ≤ k → k < length own
      → y ≤ f (own_in_place own k)
  high_in found k ge low = ⊎_elim
      (λ (here : k < end).
      let long = part_long in
      let inside : k - from < end - from = omega (arith, ge, here) in
      let same = part_at (k - from) inside in
      let back : from + (k - from) ≡ k = omega (arith, ge) in
      subst (λ j. y ≤ f (own_in_place own j)) back
      (subst (λ o. y ≤ f o) same (found (k - from) (omega (arith, ge)) (omega (arith, inside, long)))))
      (λ (past : end ≤ k). behind k (omega (arith, past, is_end, low)) low)
      (cases_lt k end)

-- ---- what an id is found by

-- no state's own has the id, if the first that isn't below it hasn't
pub no_own : (own : List Own) → ((i j : ℕ) → i < j → j < length own → (own_in_place own i).id < (own_in_place own j).id) → (id a : ℕ)
    → a ≤ length own → ((k : ℕ) → k < a → (own_in_place own k).id < id) → ((k : ℕ) → a ≤ k → k < length own → id ≤ (own_in_place own k).id)
    → (a < length own → (own_in_place own a).id ≢ id) → IsOwn own id → ⊥
no_own own up id a bound low high other w = ⊎_elim
    (λ (lt : w.0 < a). (let s = low w.0 lt in let e = w.2 in omega (arith, s, e)))
    (λ (ge : a ≤ w.0). ⊎_elim
    (λ (same : w.0 ≡ a). other (subst (λ k. k < length own) same w.1) (ap (λ k. (own_in_place own k).id) (sym same) ∙ w.2))
    (λ (ne : w.0 ≢ a).
    (let l = w.1 in let s = up a w.0 (omega (arith, ge, ne)) l in let t = high a (omega arith) (omega (arith, ge, l)) in let e = w.2 in
    omega (arith, s, t, e)))
    (cases_eq w.0 a))
    (cases_lt w.0 a)

-- the place of a kept id
pub kept_place : (kept : List ℕ) → ((i j : ℕ) → i < j → j < length kept → kept_at kept i < kept_at kept j) → (id : ℕ) → (w : IsKept kept id)
    → count_with_key_below (λ k. k) kept id ≡ w.0
kept_place kept up id w = ap (count_with_key_below (λ k. k) kept) (sym w.2) ∙ below_at (λ k. k) kept 0 up w.0 w.1
