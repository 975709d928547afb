-- Chains of needs: one step of a chain, and the test for one.
use Rattle.std.proofs.Common.{◌≡◌, ℕ, zero, suc, ◌+◌, ◌<◌, ◌==◌, ◌&&◌, ◌||◌, Bool, true, false, []}
use Rattle.std.proofs.Common.{◌∷◌, ◌++◌, get_or, refl, ap, ◌∙◌, ⊎_elim, arith, add-one, ◌⊎◌, inl}
use Rattle.std.proofs.Common.{inr}
use Rattle.std.proofs.lemmas.Bool.{eq-eqb, and_parts, or_cases, and_from, or_left, or_right}
use Rattle.std.proofs.lemmas.Bool.{eqb-true, false≢true}
use Rattle.std.specs.List.{list_any, range_with_len}
use Rattle.std.proofs.lemmas.List.Folds.{list_any-append, list_any_at}
use Rattle.std.proofs.lemmas.List.FromFn.{length-range_with_len, get_or-range_with_len}
use Rattle.cs_sets.specs.Laws.Lists.{range_more}
use Rattle.cs_sets.specs.Laws.Members.{or_false}
use Rattle.cs_sets.specs.Chains.{in_steps, by_chain, Chain, IsBackward}

-- two tests that agree below a + n agree on a range
pub any_same : (p q : ℕ → Bool) (a n : ℕ) → ((m : ℕ) → m < a + n → p m ≡ q m)
    → list_any p (range_with_len a n) ≡ list_any q (range_with_len a n)
any_same p q a zero same = refl
any_same p q a (suc n) same =
    let one : p a ≡ q a = same a (omega arith) in
    let others = any_same p q (a + 1) n (λ m h. same m (omega (arith, h))) in
    ap (λ b. b || list_any p (range_with_len (a + 1) n)) one ∙ ap (λ b. q a || b) others

-- enough steps are all steps
pub steps_enough : (needs : ℕ → ℕ → Bool) (i : ℕ) (f g k : ℕ) → k < f → k < g
    → in_steps needs f i k ≡ in_steps needs g i k
steps_enough needs i zero g k x y = absurd (omega (arith, x))
steps_enough needs i (suc f) zero k x y = absurd (omega (arith, y))
steps_enough needs i (suc f) (suc g) k x y =
    any_same (λ m. needs m k && (i == m || in_steps needs f i m))
    (λ m. needs m k && (i == m || in_steps needs g i m)) 0 k
    (λ m h. ap (λ b. needs m k && (i == m || b))
    (steps_enough needs i f g m (omega (arith, x, h)) (omega (arith, y, h))))

-- one step of a chain
pub chain_step : (needs : ℕ → ℕ → Bool) (i k : ℕ)
    → by_chain needs i k
    ≡ list_any (λ m. needs m k && (i == m || by_chain needs i m)) (range_with_len 0 k)
unfolding by_chain
chain_step needs i k =
    let e : k + 1 ≡ suc k = add-one k in
    ap (λ n. in_steps needs n i k) e
    ∙ any_same (λ m. needs m k && (i == m || in_steps needs k i m))
    (λ m. needs m k && (i == m || in_steps needs (m + 1) i m)) 0 k
    (λ m h. ap (λ b. needs m k && (i == m || b))
    (steps_enough needs i k (m + 1) m (omega (arith, h)) (omega arith)))

pub any_more : (p : ℕ → Bool) (n : ℕ)
    → list_any p (range_with_len 0 (n + 1)) ≡ (list_any p (range_with_len 0 n) || p n)
any_more p n =
    ap (list_any p) (range_more n) ∙ list_any-append p (range_with_len 0 n) (n ∷ []) ∙ ap
    (λ b. list_any p (range_with_len 0 n) || b) (or_false (p n))

-- one place more is looked at
pub row_takes : (needs : ℕ → ℕ → Bool) (k w i : ℕ) → needs w k ≡ true
    → list_any (λ m. needs m k && (i == m || by_chain needs i m)) (range_with_len 0 (w + 1))
    ≡ ((i == w || list_any (λ m. needs m k && (i == m || by_chain needs i m)) (range_with_len 0 w))
    || by_chain needs i w)
row_takes needs k w i is =
    any_more (λ m. needs m k && (i == m || by_chain needs i m)) w
    ∙ ap (λ b. list_any (λ m. needs m k && (i == m || by_chain needs i m)) (range_with_len 0 w)
    || (b && (i == w || by_chain needs i w))) is
    ∙ turn (list_any (λ m. needs m k && (i == m || by_chain needs i m)) (range_with_len 0 w))
    (i == w) (by_chain needs i w)
  where
    turn : (a b c : Bool) → (a || (b || c)) ≡ ((b || a) || c)
    turn true true c = refl
    turn true false c = refl
    turn false true c = refl
    turn false false c = refl

pub row_passes : (needs : ℕ → ℕ → Bool) (k w i : ℕ) → needs w k ≡ false
    → list_any (λ m. needs m k && (i == m || by_chain needs i m)) (range_with_len 0 (w + 1))
    ≡ list_any (λ m. needs m k && (i == m || by_chain needs i m)) (range_with_len 0 w)
row_passes needs k w i is =
    any_more (λ m. needs m k && (i == m || by_chain needs i m)) w
    ∙ ap (λ b. list_any (λ m. needs m k && (i == m || by_chain needs i m)) (range_with_len 0 w)
    || (b && (i == w || by_chain needs i w))) is
    ∙ or_false _

pub any_at : (p : ℕ → Bool) (m k : ℕ) → m < k → p m ≡ true → list_any p (range_with_len 0 k) ≡ true
any_at p m k low is =
    list_any_at p (range_with_len 0 k) m 0 (omega (arith, low, length-range_with_len 0 k))
    (let e : get_or (range_with_len 0 k) m 0 ≡ m =
    omega (arith, get_or-range_with_len 0 k m 0 low) in ap p e ∙ is)

pub any_in : (p : ℕ → Bool) (a k : ℕ) → list_any p (range_with_len a k) ≡ true → (m : ℕ)
    × (p m ≡ true)
any_in p a zero is = absurd (false≢true is)
any_in p a (suc k) is =
    ⊎_elim (λ (t : p a ≡ true). (a, t))
    (λ (t : list_any p (range_with_len (a + 1) k) ≡ true). any_in p (a + 1) k t)
    (or_cases (p a) (list_any p (range_with_len (a + 1) k)) is)

-- a chain by the number of places between, and the test
pub chain_found : (needs : ℕ → ℕ → Bool) → IsBackward needs → (n i k : ℕ) → Chain needs n i k
    → by_chain needs i k ≡ true
chain_found needs back zero i k is =
    let p = λ (m : ℕ). needs m k && (i == m || by_chain needs i m) in
    chain_step needs i k ∙ any_at p i k (back i k is)
    (and_from _ _ is (or_left _ _ (eq-eqb i i refl)))
chain_found needs back (suc n) i k (m, (c, is)) =
    let p = λ (m : ℕ). needs m k && (i == m || by_chain needs i m) in
    chain_step needs i k ∙ any_at p m k (back m k is)
    (and_from _ _ is (or_right _ _ (chain_found needs back n i m c)))

found_more : (needs : ℕ → ℕ → Bool) (f i k m : ℕ) → ((n : ℕ) × Chain needs n i m) ⊎ (i ≡ m)
    → needs m k ≡ true → (n : ℕ) × Chain needs n i k
found_more needs f i k m (inl (n, c)) is = (suc n, (m, (c, is)))
found_more needs f i k m (inr e) is = (zero, (ap (λ v. needs v k) e ∙ is))

pub found_chain : (needs : ℕ → ℕ → Bool) (f i k : ℕ) → in_steps needs f i k ≡ true → (n : ℕ)
    × Chain needs n i k
found_chain needs zero i k is = absurd (false≢true is)
found_chain needs (suc f) i k is =
    let w = any_in (λ m. needs m k && (i == m || in_steps needs f i m)) 0 k is in
    let parts = and_parts (needs w.0 k) (i == w.0 || in_steps needs f i w.0) w.1 in
    found_more needs f i k w.0
    (⊎_elim (λ (e : (i == w.0) ≡ true). inr (eqb-true i w.0 e))
    (λ (s : in_steps needs f i w.0 ≡ true). inl (found_chain needs f i w.0 s))
    (or_cases (i == w.0) (in_steps needs f i w.0) parts.1))
    parts.0
