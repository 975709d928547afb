-- Places of a list of which one changes, or one more comes.
use Rattle.std.proofs.Common.{◌≡◌, ◌≢◌, ◌∙◌, ℕ, zero, suc, ◌<◌, List, [], ◌∷◌, ◌++◌, length, Some, refl, ap, arith, ◌⊎◌, inl, inr}
use Rattle.std.proofs.lemmas.Option.{slice_get_within}
use Rattle.std.specs.Prelude.{replicate, slice_get, slice_index_or, slice_set}

-- what was at another place, or the new one at its own
pub get_set : {A : Type 0} (xs : List A) (n k : ℕ) (x y : A) → slice_get (slice_set xs n x) k ≡ Some y → ((k ≡ n) × (y ≡ x))
    ⊎ ((k ≢ n) × (slice_get xs k ≡ Some y))
get_set [] n k x y there = absurd (cc)
get_set (a ∷ xs) zero zero x y there = inl (refl, cc)
get_set (a ∷ xs) zero (suc k) x y there = inr (λ e. omega arith, there)
get_set (a ∷ xs) (suc n) zero x y there = inr (λ e. omega arith, there)
get_set (a ∷ xs) (suc n) (suc k) x y there =
    elim (get_set xs n k x y there) [
      | inl same ↦ inl (ap suc same.0, same.1)
      | inr other ↦ inr (λ e. other.0 (omega arith), other.1)
    ]

-- what was there, or the new one at the end
pub get_pushed : {A : Type 0} (xs : List A) (k : ℕ) (x y : A) → slice_get (xs ++ x ∷ []) k ≡ Some y → ((k ≡ length xs) × (y ≡ x))
    ⊎ ((k ≢ length xs) × (slice_get xs k ≡ Some y))
get_pushed [] zero x y there = inl (refl, cc)
get_pushed [] (suc k) x y there = absurd (cc)
get_pushed (a ∷ xs) zero x y there = inr (λ e. omega arith, there)
get_pushed (a ∷ xs) (suc k) x y there =
    elim (get_pushed xs k x y there) [
      | inl same ↦ inl (ap suc same.0, same.1)
      | inr other ↦ inr (λ e. other.0 (omega arith), other.1)
    ]

-- of a list of one value that value is everywhere, and past it too
pub index_replicate : {A : Type 0} (n k : ℕ) (x : A) → slice_index_or (replicate n x) k x ≡ x
index_replicate zero k x = refl
index_replicate (suc n) zero x = refl
index_replicate (suc n) (suc k) x = index_replicate n k x

pub get_set_same : {A : Type 0} (xs : List A) (n : ℕ) (x y : A) → slice_get xs n ≡ Some y → slice_get (slice_set xs n x) n ≡ Some x
get_set_same [] n x y there = absurd (cc)
get_set_same (a ∷ xs) zero x y there = refl
get_set_same (a ∷ xs) (suc n) x y there = get_set_same xs n x y there

pub get_within : {A : Type 0} (xs : List A) (n : ℕ) → n < length xs → (x : A) × (slice_get xs n ≡ Some x)
get_within [] n inside = absurd (omega arith)
get_within (a ∷ xs) zero inside = (a, refl)
get_within (a ∷ xs) (suc n) inside = get_within xs n (omega arith)

pub get_below : {A : Type 0} (xs ys : List A) (k : ℕ) → k < length xs → slice_get (xs ++ ys) k ≡ slice_get xs k
get_below [] ys k inside = absurd (omega arith)
get_below (x ∷ xs) ys zero inside = refl
get_below (x ∷ xs) ys (suc k) inside = get_below xs ys k (omega arith)

-- what was there stays when others come after it
pub get_kept : {A : Type 0} (xs ys : List A) (k : ℕ) (y : A) → slice_get xs k ≡ Some y → slice_get (xs ++ ys) k ≡ Some y
get_kept xs ys k y there = get_below xs ys k (slice_get_within xs k y there) ∙ there

pub get_end : {A : Type 0} (xs : List A) (x : A) → slice_get (xs ++ x ∷ []) (length xs) ≡ Some x
get_end [] x = refl
get_end (y ∷ xs) x = get_end xs x

pub set_again : {A : Type 0} (xs : List A) (n : ℕ) (x y : A) → slice_set (slice_set xs n x) n y ≡ slice_set xs n y
set_again [] n x y = refl
set_again (a ∷ xs) zero x y = refl
set_again (a ∷ xs) (suc n) x y = ap (λ (rest : List _). a ∷ rest) (set_again xs n x y)
