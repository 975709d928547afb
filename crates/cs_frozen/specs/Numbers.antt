-- The tables between a tree's numbers and fresh ones.
use Rattle.std.specs.Prelude.{◌≡◌, ℕ, List, map, Option, Some, slice_get}
use Rattle.std.specs.FinMap.{FinMap, entries}
use Rattle.cs_tree_model.specs.declared.record.MetadataBuf.{MetadataBuf}
use Rattle.cs_tree_model.specs.declared.record.Record.{Record}
use Rattle.cs_tree_model.specs.Tree.{Path, path_cmp, Tree, IsTree}

-- the metadata of a record as if it was never changed: its owner counts as the last who changed it
abbrev pub fresh_metadata : ℕ → MetadataBuf → MetadataBuf
fresh_metadata n m = record m { number = n; vers = 0; atime = 0; mtime = 0; muid = m.owner }

-- a record's number
abbrev pub entry_number : Path × Record → ℕ
entry_number e = e.1.number

-- the numbers of the files in the order of their paths
abbrev pub numbers_of : FinMap path_cmp Record → List ℕ
numbers_of m = map entry_number (entries m)

-- at each file's number the place of its path in that order
abbrev pub ArePlaces : FinMap path_cmp Record → (ℕ → Option ℕ) → Type 0
ArePlaces m place =
    (i : ℕ) (e : Path × Record) → slice_get (entries m) i ≡ Some e → place e.1.number ≡ Some i

-- the tree's numbers in the order of their paths, and at each of them its place
pub record IsNumbered (t : Tree) (numbers places : List ℕ) : Type 0 where
  pub tree : IsTree t
  pub own : numbers ≡ numbers_of t.files
  pub place : ArePlaces t.files (slice_get places)
