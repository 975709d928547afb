-- Tests of the elements of a list.
use Rattle.std.proofs.Common.{◌≡◌, ℕ, zero, suc, ◌+◌, ◌-◌, ◌<◌, ◌≤◌, ◌||◌, Bool, true, false}
use Rattle.std.proofs.Common.{List, [], ◌∷◌, get_or, refl, sym, ap, ◌∙◌, arith, ⊎_elim}
use Rattle.std.proofs.lemmas.Bool.{false≢true, or_cases}
use Rattle.std.proofs.lemmas.List.Folds.{list_any_at}
use Rattle.std.proofs.lemmas.List.FromFn.{length-range_with_len, get_or-range_with_len}
use Rattle.std.specs.List.{Contains, list_any, range_with_len}

pub any_found : {X : Type 0} (t : X → Bool) (xs : List X) → list_any t xs ≡ true → (x : X)
    × Contains xs x × (t x ≡ true)
any_found t [] h = absurd (false≢true h)
any_found t (x ∷ xs) h = ⊎_elim
    (λ (here : t x ≡ true). (x, (0, omega arith, refl), here))
    (λ (later : list_any t xs ≡ true).
    (let w = any_found t xs later in let l = w.1.1 in
    (w.0, (suc w.1.0, omega (arith, l), w.1.2), w.2)))
    (or_cases (t x) (list_any t xs) h)

pub any_from : {X : Type 0} (t : X → Bool) (xs : List X) (x : X) → Contains xs x → t x ≡ true
    → list_any t xs ≡ true
any_from t xs x there is = list_any_at t xs there.0 x there.1 (ap t there.2 ∙ is)

pub any_between : (t : ℕ → Bool) (a n m : ℕ) → a ≤ m → m < a + n → t m ≡ true
    → list_any t (range_with_len a n) ≡ true
any_between t a n m low high is =
    let inside : m - a < n = omega (arith, low, high) in
    let at : get_or (range_with_len a n) (m - a) 0 ≡ m =
    get_or-range_with_len a n (m - a) 0 inside ∙ omega (arith, low) in
    list_any_at t (range_with_len a n) (m - a) 0 (omega (arith, inside, length-range_with_len a n))
    (ap t at ∙ is)

pub none_between : (t : ℕ → Bool) (a n : ℕ) → ((m : ℕ) → a ≤ m → m < a + n → t m ≡ false)
    → list_any t (range_with_len a n) ≡ false
none_between t a zero none = refl
none_between t a (suc n) none =
    ap (λ b. b || list_any t (range_with_len (a + 1) n)) (none a (omega arith) (omega arith))
    ∙ none_between t (a + 1) n (λ m l h. none m (omega (arith, l)) (omega (arith, h)))

-- a place between two others passes
pub found_between : (t : ℕ → Bool) (a n : ℕ) → list_any t (range_with_len a n) ≡ true
    → (m : ℕ) × (a ≤ m) × (m < a + n) × (t m ≡ true)
found_between t a n h =
    let w = any_found t (range_with_len a n) h in
    let low : w.1.0 < n = (let l = w.1.1 in omega (arith, l, length-range_with_len a n)) in
    let at : a + w.1.0 ≡ w.0 = sym (get_or-range_with_len a n w.1.0 w.0 low) ∙ w.1.2 in (
      w.0,
      omega (arith, at),
      omega (arith, at, low),
      w.2,
    )
