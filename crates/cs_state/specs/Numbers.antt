-- The numbers of ids that are in two ascending lists: those that states share, and a state's own.
-- An id is a place in the order of paths that the state has.
use Rattle.std.specs.Prelude.{◌≡◌, ◌≢◌, ◌+◌, ◌<◌, ◌⊎◌, ℕ, List, length}
use Rattle.std.specs.Prelude.{None, slice_index_or}
use Rattle.cs_apm.specs.Slots.{Slot, slot_at}
pub use Rattle.cs_paths.specs.Marks.{kept_at, count_with_key_below, IsKept}
use Rattle.cs_state.specs.declared.numbers.Found.{Found}
use Rattle.cs_state.specs.declared.numbers.Own.{Own}

abbrev pub empty_own : Own
empty_own = record { id = 0; number = 0; slot = None }

abbrev pub own_in_place : List Own → ℕ → Own
own_in_place own k = slice_index_or own k empty_own

-- how many ids of the two lists come before this one
abbrev pub number_in : List ℕ → List Own → ℕ → ℕ
number_in kept own id =
    count_with_key_below (λ k. k) kept id + count_with_key_below (λ (o : Own). o.id) own id

abbrev pub IsOwn : List Own → ℕ → Type 0
IsOwn own id = (k : ℕ) × (k < length own) × ((own_in_place own k).id ≡ id)

-- the id is in one of the two lists
abbrev pub HasId : List ℕ → List Own → ℕ → Type 0
HasId kept own id = IsKept kept id ⊎ IsOwn own id

-- what was found has a kept id and what is there at the start, or is one of the state's own entries
abbrev pub IsFound : List ℕ → List Slot → List Own → Found → Type 0
IsFound kept slots own f =
    (IsKept kept f.id × (f.slot ≡ slot_at slots f.id))
    ⊎ ((k : ℕ) × (k < length own) × ((own_in_place own k).id ≡ f.id)
    × ((own_in_place own k).slot ≡ f.slot))

-- both lists ascend, no id is in both, and each own entry has its number
pub record IsMerge (kept : List ℕ) (own : List Own) : Type 0 where
  pub kept_up : (i j : ℕ) → i < j → j < length kept → kept_at kept i < kept_at kept j
  pub own_up : (i j : ℕ) → i < j → j < length own
      → (own_in_place own i).id < (own_in_place own j).id
  pub apart : (i j : ℕ) → i < length kept → j < length own
      → kept_at kept i ≢ (own_in_place own j).id
  pub numbered : (j : ℕ) → j < length own
      → (own_in_place own j).number ≡ count_with_key_below (λ k. k) kept (own_in_place own j).id + j
