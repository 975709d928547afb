-- The slots that some step changes, by their places in a list, and the steps in these only.
use Rattle.std.specs.Prelude.{◌≡◌, ◌<◌, ◌≤◌, ◌+◌, ℕ, List, length, map, slice_index_or}
use Rattle.cs_apm.specs.Slots.{Slot, slot_at, step_at}
use Rattle.cs_apm.specs.declared.slot.Step.{Step}
use Rattle.cs_apm.specs.declared.slot.Step.TheVariants.{Set, Move, Other}
use Rattle.cs_same_states.specs.declared.touched.Touched.{Touched}

abbrev pub id_at : List ℕ → ℕ → ℕ
id_at ids r = slice_index_or ids r 0

-- the slot has this place among those of the list
abbrev pub HasRank : List ℕ → ℕ → ℕ → Type 0
HasRank ids id r = (r < length ids) × (id_at ids r ≡ id)

-- the slot isn't in the list
abbrev pub IsUnlisted : List ℕ → ℕ → Type 0
IsUnlisted ids id = (r : ℕ) → r < length ids → id_at ids r ≡ id → ⊥

-- no slot is in the list twice
abbrev pub AreDistinct : List ℕ → Type 0
AreDistinct ids = (r q : ℕ) → r < length ids → q < length ids → id_at ids r ≡ id_at ids q → r ≡ q

-- the new list begins with the old one, and has no slot twice if the old one has none
pub record Extends (old new : List ℕ) : Type 0 where
  pub long : length old ≤ length new
  pub same : (r : ℕ) → r < length old → id_at new r ≡ id_at old r
  pub distinct : AreDistinct old → AreDistinct new

-- the slot has this place in the new list, which has at most one slot more than the old one
pub record IsRank (old new : List ℕ) (id rank : ℕ) : Type 0 where
  pub place : HasRank new id rank
  pub extends : Extends old new
  pub few : length new ≤ length old + 1

-- the one step does to the slots what the other does to those of the list
abbrev pub IsRenumbered : List ℕ → Step → Step → Type 0
IsRenumbered ids (Set i s) (Set r u) = HasRank ids i r × (s ≡ u)
IsRenumbered ids (Move i j) (Move r q) = HasRank ids i r × HasRank ids j q
IsRenumbered ids Other Other = Unit {0}
IsRenumbered ids _ _ = ⊥

pub record AreRenumbered (ids : List ℕ) (steps made : List Step) : Type 0 where
  pub distinct : AreDistinct ids
  pub long : length made ≡ length steps
  pub each : (k : ℕ) → IsRenumbered ids (step_at steps k) (step_at made k)

-- the list is that of these slots and steps
pub record AreListed (slots : List Slot) (steps : List Step) (touched : Touched) : Type 0 where
  pub listed : touched.slots.items ≡ map (slot_at slots) touched.ids.items
  pub renumbered : AreRenumbered touched.ids.items steps touched.steps.items
