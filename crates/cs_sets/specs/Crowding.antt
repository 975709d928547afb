-- Levels of different futures.
use Rattle.std.specs.Prelude.{◌≡◌, ◌⊎◌, ℕ, ◌-◌, ◌<◌, Bool, false, List, length, map, slice_index_or}
use Rattle.std.specs.List.{All, Contains}
use Rattle.std.specs.declared.cmp.Ordering.TheVariants.{Less}
use Rattle.cs_sets.specs.declared.count.Future.{Future}
use Rattle.cs_sets.specs.declared.row.Row.{Row}
use Rattle.cs_sets.specs.Bits.{has_place}
use Rattle.cs_sets.specs.Drawing.{row_cmp}
use Rattle.cs_sets.specs.Every.{every, IsFuture}
use Rattle.cs_sets.specs.Places.{IsWithin}
use Rattle.cs_sets.specs.Sound.{IsSound}
use Rattle.cs_sets.specs.Laws.Lists.{Ordered}
use Rattle.cs_sets.specs.Laws.Members.{IsBelow}

-- the row has exactly the future at k of some allowed set of the places below k
pub record IsReached (needs : ℕ → ℕ → Bool) (n k : ℕ) (row : Row) : Type 0 where
  pub places : List ℕ
  pub below : IsBelow k places
  pub member : Contains (every needs k) places
  pub future : IsFuture needs n k places (has_place row)
  pub none : (j : ℕ) → j < k → has_place row j ≡ false
  pub within : IsWithin n row
  pub sound : IsSound row

abbrev pub AreReached : (ℕ → ℕ → Bool) → ℕ → ℕ → List Future → Type 0
AreReached needs n k futures = All (λ f. IsReached needs n k f.left) futures

-- ---- ascending rows

abbrev pub left_of : Future → Row
left_of future = future.left

abbrev pub lefts : List Future → List Row
lefts futures = map left_of futures

abbrev pub Before : Row → Row → Type 0
Before a b = row_cmp a b ≡ Less

-- they ascend strictly
abbrev pub IsRising : List Row → Type 0
IsRising rows = Ordered Before rows

-- and end with this one
pub record RisesTo (rows : List Row) (last : Row) : Type 0 where
  pub rising : IsRising rows
  pub upto : All (λ a. Before a last ⊎ (a ≡ last)) rows
  pub some : 0 < length rows
  pub ends : (d : Row) → slice_index_or rows (length rows - 1) d ≡ last
