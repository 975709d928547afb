-- What comes after a member in the list of all.
use Rattle.std.specs.Prelude.{◌≡◌, ℕ, ◌+◌, ◌<◌, ◌≤◌, ◌==◌, ◌&&◌, ◌||◌, nat_eq, nat_lt, Bool, true, false, cond, List, [], ◌∷◌}
use Rattle.std.specs.Cmp.Lexicographic.{pointwise}
use Rattle.std.specs.List.{filter, range_with_len}
use Rattle.cs_sets.specs.Every.{every}

-- the places below k that pass the test, ascending
abbrev pub chosen : (ℕ → Bool) → ℕ → List ℕ
chosen has k = filter has (range_with_len 0 k)

-- a list, from the first element on that has exactly these places
abbrev pub from_on : List ℕ → List (List ℕ) → List (List ℕ)
from_on places [] = []
from_on places (x ∷ xs) = cond (pointwise nat_eq x places) (x ∷ xs) (from_on places xs)

-- a member, and those after it
abbrev pub every_from : (ℕ → ℕ → Bool) → ℕ → List ℕ → List (List ℕ)
every_from needs n places = from_on places (every needs n)

-- with each place below n that passes, what it needs passes
abbrev pub IsClosed : (ℕ → ℕ → Bool) → ℕ → (ℕ → Bool) → Type 0
IsClosed needs n has = (i j : ℕ) → j < n → has j ≡ true → needs i j ≡ true → has i ≡ true

-- the place doesn't pass, and all that it needs does: so it can be added
pub record IsFree (needs : ℕ → ℕ → Bool) (has : ℕ → Bool) (k : ℕ) : Type 0 where
  pub missing : has k ≡ false
  pub closed : (i : ℕ) → needs i k ≡ true → has i ≡ true

-- no place from one on and below n can be added
abbrev pub HasNoneFree : (ℕ → ℕ → Bool) → (ℕ → Bool) → ℕ → ℕ → Type 0
HasNoneFree needs has from n = (k : ℕ) → from ≤ k → k < n → ¬ IsFree needs has k

-- the last place below n that can be added
pub record IsLastFree (needs : ℕ → ℕ → Bool) (has : ℕ → Bool) (n k : ℕ) : Type 0 where
  pub below : k < n
  pub free : IsFree needs has k
  pub last : HasNoneFree needs has (k + 1) n

-- what passes below k, and k
abbrev pub cut_with : (ℕ → Bool) → ℕ → ℕ → Bool
cut_with has k i = i == k || (nat_lt i k && has i)
