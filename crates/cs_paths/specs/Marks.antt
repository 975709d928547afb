-- Lists of numbers, and marks of numbers.
use Rattle.std.specs.Prelude.{◌≡◌, ◌<◌, ◌+◌, ℕ, zero, suc, cond, Bool, false, List, [], ◌∷◌, ◌++◌}
use Rattle.std.specs.Prelude.{length, nat_lt, slice_index_or}

abbrev pub kept_at : List ℕ → ℕ → ℕ
kept_at kept k = slice_index_or kept k 0

abbrev pub mark_at : List Bool → ℕ → Bool
mark_at marks i = slice_index_or marks i false

-- the numbers below n that pass the test, ascending
abbrev pub numbers_that_pass : (ℕ → Bool) → ℕ → List ℕ
numbers_that_pass f zero = []
numbers_that_pass f (suc n) = numbers_that_pass f n ++ cond (f n) (n ∷ []) []

-- the number is in the list
abbrev pub IsKept : List ℕ → ℕ → Type 0
IsKept kept id = (k : ℕ) × (k < length kept) × (kept_at kept k ≡ id)

-- how many elements of the list have a key below y
abbrev pub count_with_key_below : {X : Type 0} → (X → ℕ) → List X → ℕ → ℕ
count_with_key_below f [] y = 0
count_with_key_below f (x ∷ xs) y = cond (nat_lt (f x) y) 1 0 + count_with_key_below f xs y
