-- Walks by what is left, and counts by futures.
use Rattle.std.proofs.Common.{◌≡◌, ℕ, zero, suc, ◌+◌, ◌<◌, ◌==◌, ◌&&◌, not, Bool, true, false, cond}
use Rattle.std.proofs.Common.{List, [], ◌∷◌, ◌++◌, refl, sym, ap, ◌∙◌, arith, ⊎_elim, length, length-append}
use Rattle.std.proofs.lemmas.Bool.{cases_Bool, or_cases, eqb-true, false≢true}
use Rattle.std.proofs.lemmas.List.{append-nil}
use Rattle.std.specs.List.{flat_map}
use Rattle.cs_sets.specs.Sets.{is_member}
use Rattle.cs_sets.specs.Every.{may, choices, every, extending, lacking, count, IsFuture}
use Rattle.cs_sets.specs.Laws.Lists.{flat_twice, flat_single}
use Rattle.cs_sets.specs.Laws.Members.{IsBelow, may_without, may_with, member_push}

-- the members are those that extend the members of the first k places
pub every_extends : (needs : ℕ → ℕ → Bool) (m k : ℕ) → every needs (k + m)
    ≡ flat_map (extending needs m k) (every needs k)
every_extends needs zero k =
    let e : k + 0 ≡ k = omega arith in ap (every needs) e ∙ sym (flat_single (every needs k))
every_extends needs (suc m) k =
    let e : k + suc m ≡ (k + 1) + m = omega arith in
    let f : k + 1 ≡ suc k = omega arith in
    ap (every needs) e ∙ every_extends needs m (k + 1)
    ∙ ap (λ w. flat_map (extending needs m (k + 1)) (every needs w)) f
    ∙ flat_twice (extending needs m (k + 1)) (choices needs k) (every needs k)

pub every_is : (needs : ℕ → ℕ → Bool) (n : ℕ) → every needs n ≡ extending needs n 0 []
every_is needs n =
    let e : n ≡ 0 + n = omega arith in
    ap (every needs) e ∙ every_extends needs n 0 ∙ append-nil (extending needs n 0 [])

-- a step of the walk, by whether the set may have k
pub extending_with : (needs : ℕ → ℕ → Bool) (m k : ℕ) (places : List ℕ) → may needs k places k
    ≡ true
    → extending needs (suc m) k places ≡ extending needs m (k + 1) places ++ extending needs m
    (k + 1) (places ++ k ∷ [])
extending_with needs m k places t =
    ap (λ b. flat_map (extending needs m (k + 1)) (places ∷ cond b ((places ++ k ∷ []) ∷ []) [])) t
    ∙ ap (λ v. extending needs m (k + 1) places ++ v)
    (append-nil (extending needs m (k + 1) (places ++ k ∷ [])))

pub extending_without : (needs : ℕ → ℕ → Bool) (m k : ℕ) (places : List ℕ) → may needs k places k
    ≡ false
    → extending needs (suc m) k places ≡ extending needs m (k + 1) places
extending_without needs m k places f =
    ap (λ b. flat_map (extending needs m (k + 1)) (places ∷ cond b ((places ++ k ∷ []) ∷ []) [])) f
    ∙ append-nil (extending needs m (k + 1) places)

-- ---- futures

pub future_without : (needs : ℕ → ℕ → Bool) (n k : ℕ) (places : List ℕ) (has : ℕ → Bool)
    → IsBelow k places → IsFuture needs n k places has
    → IsFuture needs n (k + 1) places (lacking needs k has)
future_without needs n k places has below is j high low =
    ap (λ b. b && not (needs k j)) (is j (omega (arith, high)) low)
    ∙ sym (may_without needs k places j below)

pub future_with : (needs : ℕ → ℕ → Bool) (n k : ℕ) (places : List ℕ) (has : ℕ → Bool)
    → IsFuture needs n k places has
    → IsFuture needs n (k + 1) (places ++ k ∷ []) has
future_with needs n k places has is j high low = is j (omega (arith, high)) low
    ∙ sym (may_with needs k places j)

pub below_more : (k : ℕ) (places : List ℕ) → IsBelow k places → IsBelow (k + 1) places
below_more k places below i t = (let l = below i t in omega (arith, l))

pub below_push : (k : ℕ) (places : List ℕ) → IsBelow k places → IsBelow (k + 1) (places ++ k ∷ [])
below_push k places below i t = ⊎_elim
    (λ (h : is_member places i ≡ true). (let l = below i h in omega (arith, l)))
    (λ (e : (k == i) ≡ true). (let f = eqb-true k i e in omega (arith, f)))
    (or_cases (is_member places i) (k == i) (sym (member_push places k i) ∙ t))

-- the count depends on the future alone
pub count_is : (needs : ℕ → ℕ → Bool) (n m k : ℕ) (places : List ℕ) (has : ℕ → Bool) → k + m ≡ n
    → IsBelow k places
    → IsFuture needs n k places has → length (extending needs m k places) ≡ count needs m k has
count_is needs n zero k places has e below is = refl
count_is needs n (suc m) k places has e below is =
    let without = count_is needs n m (k + 1) places (lacking needs k has) (omega (arith, e))
    (below_more k places below)
    (future_without needs n k places has below is) in
    ⊎_elim
    (λ (t : may needs k places k ≡ true).
    (let more = count_is needs n m (k + 1) (places ++ k ∷ []) has (omega (arith, e))
    (below_push k places below)
    (future_with needs n k places has is) in
    let here : has k ≡ true = is k (omega arith) (omega (arith, e)) ∙ t in
    ap length (extending_with needs m k places t)
    ∙ length-append (extending needs m (k + 1) places)
    (extending needs m (k + 1) (places ++ k ∷ []))
    ∙ ap (λ x. x + length (extending needs m (k + 1) (places ++ k ∷ []))) without
    ∙ ap (λ x. count needs m (k + 1) (lacking needs k has) + x) more
    ∙ ap (λ b. count needs m (k + 1) (lacking needs k has) + cond b (count needs m (k + 1) has) 0)
    (sym here)))
    (λ (f : may needs k places k ≡ false).
    (let here : has k ≡ false = is k (omega arith) (omega (arith, e)) ∙ f in
    ap length (extending_without needs m k places f) ∙ without
    ∙ add_none (count needs m (k + 1) (lacking needs k has))
    ∙ ap (λ b. count needs m (k + 1) (lacking needs k has) + cond b (count needs m (k + 1) has) 0)
    (sym here)))
    (cases_Bool (may needs k places k))
  where
    add_none : (x : ℕ) → x ≡ x + 0
    add_none x = omega arith

-- nothing below 0 is needed, so all places are the first future
pub all_at_first : (needs : ℕ → ℕ → Bool) (n : ℕ) (has : ℕ → Bool)
    → ((j : ℕ) → j < n → has j ≡ true) → IsFuture needs n 0 [] has
unfolding may
all_at_first needs n has all j high low = all j low

pub none_below : IsBelow 0 []
none_below i t = absurd (false≢true t)

pub every_counts : (needs : ℕ → ℕ → Bool) (n : ℕ) → length (every needs n)
    ≡ count needs n 0 (λ j. true)
every_counts needs n =
    ap length (every_is needs n)
    ∙ count_is needs n n 0 [] (λ j. true) (omega arith) none_below
    (all_at_first needs n (λ j. true) (λ j low. refl))
