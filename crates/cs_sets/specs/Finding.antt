-- Places that pass a test, one after the other.
use Rattle.std.specs.Prelude.{◌≡◌, ℕ, ◌<◌, ◌≤◌, Bool, true, false}

-- no place from one on and before another passes the test
abbrev pub HasNone : (ℕ → Bool) → ℕ → ℕ → Type 0
HasNone has first end = (i : ℕ) → first ≤ i → i < end → has i ≡ false

-- the first place from one on and before another that passes the test
pub record IsNext (has : ℕ → Bool) (first end place : ℕ) : Type 0 where
  pub from_first : first ≤ place
  pub before_end : place < end
  pub is_there : has place ≡ true
  pub none_before : HasNone has first place
