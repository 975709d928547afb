-- Sets that have what their members need.
use Rattle.std.specs.Prelude.{◌≡◌, ◌≢◌, ◌<◌, ℕ, Bool, true, Some}
use Rattle.cs_entries.specs.Entries.{Entries, Entry, EntryOp, Create, touches, Removes}
use Rattle.cs_entries.specs.Entries.{MovesDirectory}
use Rattle.cs_entries.specs.declared.node.Node.TheVariants.{Directory}

pub record HasNeeds (ops : ℕ → EntryOp) (has : ℕ → Bool) : Type 0 where
  -- P2: both touch one entry
  pub entry : (i j : ℕ) (e : Entry) → i < j → has j ≡ true → touches (ops i) e ≡ true
      → touches (ops j) e ≡ true → has i ≡ true
  -- P3: i makes the directory in which j touches an entry
  pub maker : (i j : ℕ) (e f : Entry) → i < j → has j ≡ true → touches (ops j) e ≡ true
      → ops i ≡ Create f (Directory e.directory) → has i ≡ true
  -- P4: j removes the directory in which i touches an entry
  pub emptied : (i j : ℕ) (e : Entry) → i < j → has j ≡ true → touches (ops i) e ≡ true
      → Removes (ops j) e.directory → has i ≡ true
  -- P12: both move directories
  pub moves : (i j : ℕ) → i < j → has j ≡ true → MovesDirectory (ops i) → MovesDirectory (ops j)
      → has i ≡ true

-- each directory that is made has a number of its own (version 4)
abbrev pub AreNumbered : Entries → (ℕ → EntryOp) → ℕ → Type 0
AreNumbered start ops n = (k d : ℕ) (e : Entry) → k < n → ops k ≡ Create e (Directory d)
    → (d ≢ 0) × ((f : Entry) → start f ≢ Some (Directory d))
    × ((i : ℕ) (f : Entry) → i < k → ops i ≢ Create f (Directory d))

-- no directory is moved, and each is made at an entry of its own: if one is made again at a path,
-- it has the number of the one before (versions 1 to 3)
pub record AreFixed (start : Entries) (ops : ℕ → EntryOp) (n : ℕ) : Type 0 where
  pub stay : (k : ℕ) → k < n → MovesDirectory (ops k) → ⊥
  pub home : ℕ → Entry
  pub first : (e : Entry) (d : ℕ) → start e ≡ Some (Directory d) → home d ≡ e
  pub made : (k : ℕ) (e : Entry) (d : ℕ) → k < n → ops k ≡ Create e (Directory d) → home d ≡ e

-- each number of a directory is below this
pub record AreFew (start : Entries) (ops : ℕ → EntryOp) (n few : ℕ) : Type 0 where
  pub first : (e : Entry) (d : ℕ) → start e ≡ Some (Directory d) → d < few
  pub made : (k : ℕ) (e : Entry) (d : ℕ) → k < n → ops k ≡ Create e (Directory d) → d < few
