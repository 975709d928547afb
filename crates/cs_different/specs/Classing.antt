-- Classes of sets in bits.
use Rattle.std.specs.Prelude.{◌≡◌, ℕ, ◌-◌, ◌<◌, ◌≤◌, Bool, true, false, List, cond, fold, nat_eq}
use Rattle.std.specs.Prelude.{Option, is_some}
use Rattle.std.specs.Cmp.Lexicographic.{pointwise}
use Rattle.std.specs.List.{All, filter, flat_map, range_with_len}
use Rattle.cs_different.specs.declared.classes.Class.{Class}
use Rattle.cs_different.specs.declared.classes.TheConstants.{NO_PLACES}
use Rattle.cs_different.specs.Digests.{with_part}
use Rattle.cs_sets.specs.declared.row.Row.{Row}
use Rattle.cs_sets.specs.Bits.{has_place}
use Rattle.cs_sets.specs.Every.{extending}
use Rattle.cs_sets.specs.Sets.{IsAllowed}
use Rattle.cs_sets.specs.Different.{different, firsts, leave_alike, state_of}
use Rattle.cs_sets.specs.Laws.Walking.{IsAt}

-- the set of places below k
abbrev pub members_at : ℕ → Class → List ℕ
members_at k class = filter (has_place class.members) (range_with_len 0 k)

-- the allowed sets of all n places that extend the set of a class
abbrev pub extensions : (ℕ → ℕ → Bool) → ℕ → ℕ → Class → List (List ℕ)
extensions needs n k class = extending needs (n - k) k (members_at k class)

-- what a class has of its set of places below k is right
pub record IsClass (act : (ℕ → Bool) → ℕ → ℕ → Bool) (start : ℕ → Bool) (needs : ℕ → ℕ → Bool) (n k
    : ℕ) (class : Class)
    : Type 0 where
  pub seen : (i : ℕ) → i < k → has_place class.common i ≡ state_of act start (members_at k class) i
  pub unseen : (i : ℕ) → k ≤ i → state_of act start (members_at k class) i ≡ false
  pub allowed : IsAllowed needs k (members_at k class)
  pub at : IsAt needs n k (members_at k class) (has_place class.common)
  pub none_later : (j : ℕ) → k ≤ j → has_place class.members j ≡ false

-- the same is seen of both, and their futures are equal
abbrev pub one_key : Class → Class → Bool
one_key a b = pointwise nat_eq a.common.words b.common.words

-- the digest of a sequence with one more place if there is one
abbrev pub with_place : (ℕ → Bool) → ℕ → ℕ → ℕ
with_place has digest place = cond (has place) (with_part digest place) digest

-- the digest of the first places of a row
unfoldable pub digest_of_row : ℕ → Row → ℕ
digest_of_row end row = fold (with_place (has_place row)) NO_PLACES (range_with_len 0 end)

-- a table has the digests of what was kept
abbrev pub AreMet : ℕ → (ℕ → Option ℕ) → List Class → Type 0
AreMet end index kept = All (λ y. is_some (index (digest_of_row end y.common)) ≡ true) kept

-- some classes were made, the first of each key was kept, and what extends those made are these
-- sets
pub record AreGrown (act : (ℕ → Bool) → ℕ → ℕ → Bool) (start : ℕ → Bool) (needs : ℕ → ℕ → Bool) (n k
    : ℕ) (sets : List (List ℕ)) (kept : List Class)
    : Type 0 where
  pub made : List Class
  pub of_each : kept ≡ firsts one_key made
  pub are : All (IsClass act start needs n k) made
  pub extend : flat_map (extensions needs n k) made ≡ sets

-- of the sets that extend these, the first that differ are those of all sets
abbrev pub Leads : ((ℕ → Bool) → (ℕ → Bool) → Bool) → ((ℕ → Bool) → ℕ → ℕ → Bool) → (ℕ → Bool) → (ℕ
    → ℕ → Bool) → ℕ → ℕ
    → List Class → Type 0
Leads like act start needs n k level =
    firsts (leave_alike like act start) (flat_map (extensions needs n k) level)
    ≡ different like act start needs n
