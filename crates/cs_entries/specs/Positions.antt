-- Where directories are, by the moves of directories only.
use Rattle.std.specs.Prelude.{◌≡◌, ◌<◌, ◌==◌, ℕ, zero, suc, Bool, cond, Some, List, [], ◌∷◌, ◌++◌}
use Rattle.cs_entries.specs.Entries.{Entries, Entry, EntryOp, Create, Move}
use Rattle.cs_entries.specs.declared.node.Node.TheVariants.{Directory}

-- the entry of the directory after a member
abbrev pub placed_by : EntryOp → ℕ → Entry → Entry
placed_by (Move a b (Directory c) old) d e = cond (c == d) b e
placed_by _ d e = e

-- where each directory is after the first k operations that the set has, from where it is made
abbrev pub position : (ℕ → Bool) → (ℕ → EntryOp) → (ℕ → Entry) → ℕ → ℕ → Entry
position has ops home zero d = home d
position has ops home (suc k) d =
    cond (has k) (placed_by (ops k) d (position has ops home k d)) (position has ops home k d)

-- each directory's entry at the start, or where it is made
pub record AreHomes (start : Entries) (ops : ℕ → EntryOp) (n : ℕ) (home : ℕ → Entry) : Type 0 where
  pub first : (e : Entry) (d : ℕ) → start e ≡ Some (Directory d) → home d ≡ e
  pub made : (k : ℕ) (e : Entry) (d : ℕ) → k < n → ops k ≡ Create e (Directory d) → home d ≡ e

-- the path of a directory by the entries of directories, so many names up
abbrev pub climb : (ℕ → Entry) → ℕ → ℕ → List (List ℕ)
climb at zero d = []
climb at (suc n) d =
    cond (d == 0) [] (climb at n (at d).directory ++ (at d).name ∷ [])

-- the path of an entry
abbrev pub climb_entry : (ℕ → Entry) → ℕ → Entry → List (List ℕ)
climb_entry at n e = climb at n e.directory ++ e.name ∷ []
