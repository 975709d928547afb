-- The numbers of a table's open fids, of which the last is the least.
use Rattle.std.specs.Prelude.{◌≡◌, ℕ, ◌-◌, ◌<◌, ◌≤◌, ◌==◌, min, Bool, false, List, Option, None}
use Rattle.std.specs.Prelude.{Some, length}
use Rattle.std.specs.FinMap.{get, len}
use Rattle.std.specs.List.{AllPairs, list_any}
use Rattle.cs_fids.specs.Entries.{is_open}
use Rattle.cs_fids.specs.Tables.{FidMap, Fids, map_of, room_beside}
use Rattle.cs_fids.specs.declared.entry.FidEntry.{FidEntry}

-- whether the number is one of these
abbrev pub is_among : ℕ → List ℕ → Bool
is_among n numbers = list_any (λ m. n == m) numbers

-- each is less than those before it
abbrev pub IsDescending : List ℕ → Type 0
IsDescending numbers = AllPairs (λ one later. later < one) numbers

-- whether there is an open fid
abbrev pub is_open_in : Option FidEntry → Bool
is_open_in None = false
is_open_in (Some entry) = is_open entry

-- these are the numbers of the open fids, each once and the least last, in memory for as many as
-- there are fids
pub record AreOpens (fids : FidMap) (opens : List ℕ) (capacity : ℕ) : Type 0 where
  pub among : (n : ℕ) → is_among n opens ≡ is_open_in (get fids n)
  pub descending : IsDescending opens
  pub fits : len fids ≤ capacity

-- the table of these entries, with room for no more fids than there is memory for open ones
abbrev pub table_of : List (ℕ × FidEntry) → ℕ → ℕ → Fids
table_of list spare capacity = record {
  fids = map_of list;
  room = min (room_beside list spare) (capacity - length list);
}
