-- What is seen of a set: each of its places for which everything that it wants is seen, too.
use Rattle.std.specs.Prelude.{ℕ, ◌==◌, ◌&&◌, ◌||◌, not, Bool, false}
use Rattle.std.specs.List.{list_all, range_with_len}
use Rattle.cs_sets.specs.Different.{same_answer}

-- what is seen before any place: nothing
abbrev pub none_seen : ℕ → Bool
none_seen i = false

-- everything that place k wants is seen; it wants places below k only
unfoldable pub has_wanted : (ℕ → ℕ → Bool) → ℕ → (ℕ → Bool) → Bool
has_wanted wants k seen = list_all (λ z. not (wants z k) || seen z) (range_with_len 0 k)

-- what is seen after place k was added
abbrev pub see : (ℕ → ℕ → Bool) → (ℕ → Bool) → ℕ → ℕ → Bool
see wants seen k i = i == k && has_wanted wants k seen || seen i

-- of the first n places the same are seen
abbrev pub same_seen : ℕ → (ℕ → Bool) → (ℕ → Bool) → Bool
same_seen n a b = list_all (λ i. same_answer (a i) (b i)) (range_with_len 0 n)
