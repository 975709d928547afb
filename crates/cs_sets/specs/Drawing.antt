-- The member with a number.
use Rattle.std.specs.Prelude.{◌≡◌, ℕ, ◌+◌, ◌-◌, ◌<◌, ◌≤◌, ◌^◌, min, Bool, List, [], length, Option, IfSome, slice_index_or}
use Rattle.std.specs.Cmp.Lexicographic.{slice_cmp}
use Rattle.std.specs.Ordering.{nat_cmp}
use Rattle.std.specs.declared.cmp.Ordering.{Ordering}
use Rattle.cs_sets.specs.declared.draw.Draw.{Draw}
use Rattle.cs_sets.specs.declared.row.Row.{Row}
use Rattle.cs_sets.specs.Bits.{has_place}
use Rattle.cs_sets.specs.Chains.{by_chain}
use Rattle.cs_sets.specs.Every.{every, extending}
use Rattle.cs_sets.specs.Finding.{HasNone}
use Rattle.cs_sets.specs.Following.{chosen}
use Rattle.cs_sets.specs.Places.{IsWithin}
use Rattle.cs_sets.specs.Laws.Walking.{IsAt}

-- rows by their words
abbrev pub row_cmp : Row → Row → Ordering
row_cmp a b = slice_cmp nat_cmp a.words b.words

-- how many sets extend each set with this future, or `most` if there are more
abbrev pub IsCount : (ℕ → ℕ → Bool) → ℕ → ℕ → Row → ℕ → Type 0
IsCount needs n most left count = (k : ℕ) (places : List ℕ) → k ≤ n → HasNone (has_place left) 0 k
    → IsAt needs n k places (has_place left) → count
    ≡ min (length (extending needs (n - k) k places)) most

-- a table of futures has their counts
abbrev pub AreCounts : (ℕ → ℕ → Bool) → ℕ → ℕ → (Row → Option ℕ) → Type 0
AreCounts needs n most known = (left : Row) → IfSome (known left) (IsCount needs n most left)

-- the places below one are drawn; the number is that of the member among those that extend them
pub record IsDraw (needs : ℕ → ℕ → Bool) (n most number : ℕ) (draw : Draw) : Type 0 where
  pub inside : draw.first ≤ n
  pub none : HasNone (has_place draw.left) 0 draw.first
  pub at : IsAt needs n draw.first (chosen (has_place draw.members) draw.first)
      (has_place draw.left)
  pub within : IsWithin draw.first draw.members
  pub few : length (extending needs (n - draw.first) draw.first
      (chosen (has_place draw.members) draw.first)) < most
  pub low : draw.rest < length (extending needs (n - draw.first) draw.first
      (chosen (has_place draw.members) draw.first))
  pub is : slice_index_or (every needs n) number []
      ≡ slice_index_or (extending needs (n - draw.first) draw.first
      (chosen (has_place draw.members) draw.first)) draw.rest []

-- all is counted, and a table has counts by futures
pub record IsTable (needs : ℕ → ℕ → Bool) (n count : ℕ) (known : Row → Option ℕ) : Type 0 where
  pub counted : count ≡ length (every needs n)
  pub kept : AreCounts (by_chain needs) n (2 ^ 64) known
