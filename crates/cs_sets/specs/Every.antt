-- Every set that a crash may leave, in order.
use Rattle.std.specs.Prelude.{◌≡◌, ℕ, zero, suc, ◌+◌, ◌<◌, ◌≤◌, ◌&&◌, ◌||◌, not, Bool, true, false, cond, List, [], ◌∷◌, ◌++◌}
use Rattle.std.specs.List.{list_all, range_with_len, flat_map}
use Rattle.cs_sets.specs.Sets.{is_member}

-- place j needs no place below k that the set doesn't have
unfoldable pub may : (ℕ → ℕ → Bool) → ℕ → List ℕ → ℕ → Bool
may needs k places j = list_all (λ i. not (needs i j) || is_member places i) (range_with_len 0 k)

-- a set of places below k: without k, and, if it has all that k needs, with k
abbrev pub choices : (ℕ → ℕ → Bool) → ℕ → List ℕ → List (List ℕ)
choices needs k places =
    places ∷ cond (may needs k places k) ((places ++ k ∷ []) ∷ []) []

-- every allowed set of the first n places, ascending
abbrev pub every : (ℕ → ℕ → Bool) → ℕ → List (List ℕ)
every needs zero = [] ∷ []
every needs (suc k) = flat_map (choices needs k) (every needs k)

-- those that extend a set of places below k by some of the m places from k on
abbrev pub extending : (ℕ → ℕ → Bool) → ℕ → ℕ → List ℕ → List (List ℕ)
extending needs zero k places = places ∷ []
extending needs (suc m) k places = flat_map (extending needs m (k + 1)) (choices needs k places)

-- a before b: b has the first place in which the two differ
pub record IsBefore (a b : List ℕ) : Type 0 where
  pub place : ℕ
  pub first_lacks : is_member a place ≡ false
  pub second_has : is_member b place ≡ true
  pub same : (i : ℕ) → i < place → is_member a i ≡ is_member b i

-- ---- futures

-- a future is a test; that of the sets without place k
abbrev pub lacking : (ℕ → ℕ → Bool) → ℕ → (ℕ → Bool) → ℕ → Bool
lacking needs k has j = has j && not (needs k j)

-- how many sets extend by some of the m places from k on a set with this future
abbrev pub count : (ℕ → ℕ → Bool) → ℕ → ℕ → (ℕ → Bool) → ℕ
count needs zero k has = 1
count needs (suc m) k has =
    count needs m (k + 1) (lacking needs k has) + cond (has k) (count needs m (k + 1) has) 0

-- the test says from k on and below n what the future of the set is
abbrev pub IsFuture : (ℕ → ℕ → Bool) → ℕ → ℕ → List ℕ → (ℕ → Bool) → Type 0
IsFuture needs n k places has = (j : ℕ) → k ≤ j → j < n → has j ≡ may needs k places j
