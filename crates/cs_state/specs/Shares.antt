-- What states of a trace share, and what one state has of its own. An id is a place in the order of
-- paths that a state has.
use Rattle.std.specs.Prelude.{◌≡◌, ◌≢◌, ◌+◌, ◌<◌, ◌^◌, ◌⊎◌, ℕ, zero, suc, cond, Bool, true, false}
use Rattle.std.specs.Prelude.{not, ◌&&◌, List, [], Option, None, Some, fold, length, map}
use Rattle.std.specs.Prelude.{slice_get}
use Rattle.std.specs.Option.{is_some, option_map_or}
use Rattle.cs_micro.specs.declared.micro_op.MicroOp.{MicroOp}
use Rattle.cs_apm.specs.Slots.{Slot, slot_at, slots_after, step_at}
use Rattle.cs_apm.specs.declared.slot.Step.{Step}
use Rattle.cs_apm.specs.declared.slot.Step.TheVariants as step
use Rattle.cs_apm.specs.declared.tables.Tables.{Tables}
use Rattle.cs_state.specs.declared.numbers.Own.{Own}
use Rattle.cs_paths.specs.declared.path_order.PathOrder.{PathOrder}
use Rattle.cs_state.specs.declared.kept_ids.KeptIds.{KeptIds}
use Rattle.cs_state.specs.declared.shares.Shares.{Shares}
pub use Rattle.cs_paths.specs.Marks.{mark_at, numbers_that_pass}
pub use Rattle.cs_paths.specs.PathOrders.{homes_of, positions_of}
use Rattle.cs_state.specs.Numbers.{own_in_place, count_with_key_below, kept_at, HasId, IsKept}
use Rattle.cs_state.specs.Numbers.{IsMerge}
use Rattle.cs_paths.specs.PathOrders.{ids_after, place_of_id, places_after, slots_by_path}
use Rattle.cs_paths.specs.PathOrders.{ArePathOrders}

-- something is in the slot
abbrev pub is_entry : Slot → Bool
is_entry slot = is_some slot

-- how many of the first i slots have something
abbrev pub count_standing : List Slot → ℕ → ℕ
count_standing slots zero = 0
count_standing slots (suc i) = cond (is_entry (slot_at slots i)) 1 0 + count_standing slots i

-- the number of what is at the id, if there is something: how many ids before it have something.
-- The slots are in the order of paths
abbrev pub number_of_id : List Slot → ℕ → Option ℕ
number_of_id slots id =
    cond (is_entry (slot_at slots id)) (Some (count_standing slots id)) None

-- the step leaves what the entry of the place holds
abbrev pub Leaves : ℕ → Step → Type 0
Leaves place (step.Set i s) = i ≢ place
Leaves place (step.Move i j) = (i ≢ place) × (j ≢ place)
Leaves place step.Other = Unit {0}

-- no step changes what the entry of the place holds
abbrev pub IsLeft : List Step → ℕ → Type 0
IsLeft steps place = (k : ℕ) → k < length steps → Leaves place (step_at steps k)

-- the step changes what the entry of the place holds
abbrev pub Touches : ℕ → Step → Type 0
Touches place (step.Set i s) = i ≡ place
Touches place (step.Move i j) = (i ≡ place) ⊎ (j ≡ place)
Touches place step.Other = ⊥

-- one of the steps changes what the entry of the place holds
abbrev pub IsTouched : List Step → ℕ → Type 0
IsTouched steps place = (k : ℕ) × (k < length steps) × Touches place (step_at steps k)

-- no step changes what the entry with an id holds; no step touches the root
abbrev pub IsIdLeft : List ℕ → List Step → ℕ → Type 0
IsIdLeft places steps id = (place : ℕ) → place_of_id places id ≡ Some place → IsLeft steps place

abbrev pub IsIdTouched : List ℕ → List Step → ℕ → Type 0
IsIdTouched places steps id =
    (place : ℕ) × (place_of_id places id ≡ Some place) × IsTouched steps place

-- the same is there in every state
abbrev pub is_in_every_state : List Bool → List Slot → ℕ → Bool
is_in_every_state marks slots id = not (mark_at marks id) && is_entry (slot_at slots id)

-- the slots after the members of a set, in the order of entries
abbrev pub slots_left : Tables → List ℕ → List Slot
slots_left tables places =
    fold slots_after tables.slots.items (map (step_at tables.steps.items) places)

-- the lists of ids, of the order of paths with these places, are of the tables: no step changes
-- what is kept, one changes what is touched, and what is in neither list never holds anything
pub record AreIds (tables : Tables) (places : List ℕ) (o : KeptIds) : Type 0 where
  pub few : length tables.slots.items + 1 < 2 ^ 20
  pub kept_up : (i j : ℕ) → i < j → j < length o.kept.items
      → kept_at o.kept.items i < kept_at o.kept.items j
  pub kept_stand : (k : ℕ) → k < length o.kept.items
      → is_entry (slot_at (slots_by_path places tables.slots.items)
      (kept_at o.kept.items k)) ≡ true
  pub kept_left : (k : ℕ) → k < length o.kept.items
      → IsIdLeft places tables.steps.items (kept_at o.kept.items k)
  pub counted : length o.kept_below.items ≡ length tables.slots.items + 1
  pub below : (id : ℕ) → id < length tables.slots.items + 1
      → kept_at o.kept_below.items id ≡ count_with_key_below (λ k. k) o.kept.items id
  pub touched_up : (i j : ℕ) → i < j → j < length o.touched.items
      → kept_at o.touched.items i < kept_at o.touched.items j
  pub touched_low : (k : ℕ) → k < length o.touched.items
      → kept_at o.touched.items k < length tables.slots.items + 1
  pub touched_by : (k : ℕ) → k < length o.touched.items
      → IsIdTouched places tables.steps.items (kept_at o.touched.items k)
  pub apart : (i j : ℕ) → i < length o.kept.items → j < length o.touched.items
      → kept_at o.kept.items i ≢ kept_at o.touched.items j
  pub known : (id : ℕ) → id < length tables.slots.items + 1
      → (IsKept o.kept.items id ⊎ IsKept o.touched.items id)
      ⊎ ((is_entry (slot_at (slots_by_path places tables.slots.items) id) ≡ false)
      × IsIdLeft places tables.steps.items id)

-- what is needed of the tables for any order of paths, and the marks say which entries steps touch
pub record AreForOrders (tables : Tables) (marks : List Bool) : Type 0 where
  pub few : length tables.slots.items + 1 < 2 ^ 20
  pub long : length tables.slots.items ≡ length tables.entries.items
  pub marked : length marks ≡ length tables.slots.items
  pub left : (place : ℕ) → mark_at marks place ≡ false → IsLeft tables.steps.items place
  pub touched : (place : ℕ) → mark_at marks place ≡ true → IsTouched tables.steps.items place

-- the lists of ids of each order of paths
pub record AreIdsOf (tables : Tables) (orders : List PathOrder) (ids : List KeptIds) : Type 0 where
  pub long : length ids ≡ length orders
  pub each : (t : ℕ) (o : PathOrder) (kept : KeptIds) → slice_get orders t ≡ Some o
      → slice_get ids t ≡ Some kept → AreIds tables o.places.items kept

-- what was found is of the tables: for each number of moves there is an order, with its ids
pub record IsShares (ops : List MicroOp) (tables : Tables) (shares : Shares) : Type 0 where
  pub paths : ArePathOrders ops tables shares.paths
  pub ids : AreIdsOf tables shares.paths.orders.items shares.ids.items

-- the places of the entries by their paths, where a state keeps t moves of directories
abbrev pub places_by_path : Shares → ℕ → List ℕ
places_by_path shares = places_after shares.paths

-- the ids of the entries
abbrev pub ids_by_path : Shares → ℕ → List ℕ
ids_by_path shares = ids_after shares.paths

-- the ids at which every state has the same; none past all moves
abbrev pub ids_kept : Shares → ℕ → List ℕ
ids_kept shares t = option_map_or (λ o. o.kept.items) (slice_get shares.ids.items t) []

-- the two lists have the ids of the slots that have something, and each own entry has what is in
-- its slot
pub record IsShared (slots : List Slot) (kept : List ℕ) (own : List Own) : Type 0 where
  pub merge : IsMerge kept own
  pub listed : (id : ℕ) → is_entry (slot_at slots id) ≡ true → HasId kept own id
  pub there : (id : ℕ) → HasId kept own id → is_entry (slot_at slots id) ≡ true
  pub same : (k : ℕ) → k < length own
      → (own_in_place own k).slot ≡ slot_at slots (own_in_place own k).id
