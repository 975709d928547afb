-- What needs a place by a chain of places.
use Rattle.std.specs.Prelude.{◌≡◌, ℕ, zero, suc, ◌+◌, ◌<◌, ◌==◌, ◌&&◌, ◌||◌, Bool, true, false}
use Rattle.std.specs.List.{list_any, range_with_len}

-- k needs i by so many steps at most: some m that k needs is i, or needs it by fewer
abbrev pub in_steps : (ℕ → ℕ → Bool) → ℕ → ℕ → ℕ → Bool
in_steps needs zero i k = false
in_steps needs (suc n) i k =
    list_any (λ m. needs m k && (i == m || in_steps needs n i m)) (range_with_len 0 k)

-- k needs i by any chain; a chain goes down, so k + 1 steps are all
unfoldable pub by_chain : (ℕ → ℕ → Bool) → ℕ → ℕ → Bool
by_chain needs i k = in_steps needs (k + 1) i k

-- a chain with so many places between
abbrev pub Chain : (ℕ → ℕ → Bool) → ℕ → ℕ → ℕ → Type 0
Chain needs zero i k = needs i k ≡ true
Chain needs (suc n) i k = (m : ℕ) × (Chain needs n i m × (needs m k ≡ true))

-- each place needs only places before it
abbrev pub IsBackward : (ℕ → ℕ → Bool) → Type 0
IsBackward needs = (i k : ℕ) → needs i k ≡ true → i < k
