-- Entries as a plain map, and what is at each path by them.
use Rattle.std.specs.Prelude.{◌≡◌, ◌≢◌, ℕ, zero, suc, ◌==◌, Bool, cond, List, [], ◌∷◌, ◌++◌, Some}
use Rattle.std.specs.List.{flat_map, list_any}
use Rattle.std.specs.FinMap.{FinMap, get, insert, remove, entries, from_entries}
use Rattle.std.specs.Option.{option_map_or}
use Rattle.std.specs.Ordering.{nat_cmp, then_cmp, on}
use Rattle.std.specs.Cmp.Lexicographic.{slice_cmp}
use Rattle.std.specs.declared.cmp.Ordering.{Ordering}
use Rattle.cs_tree_model.specs.Tree.{Path, parent_path, path_cmp}
use Rattle.cs_entries.specs.Entries.{Entries, Entry}
use Rattle.cs_entries.specs.Entries.{EntryOp, Create, Link, Delete, Move, Other}
use Rattle.cs_entries.specs.declared.node.Node.{Node}
use Rattle.cs_entries.specs.declared.node.Node.TheVariants.{Directory, File}

-- by the directories' numbers, then by names in byte order
abbrev pub entry_cmp : Entry → Entry → Ordering
entry_cmp = then_cmp (on (λ e. e.directory) nat_cmp) (on (λ e. e.name) (slice_cmp nat_cmp))

abbrev pub Table : Type 0
Table = FinMap entry_cmp Node

-- what each entry holds
abbrev pub held_in : Table → Entries
held_in t e = get t e

-- the directory of the number has an entry
abbrev pub has_entries : Table → ℕ → Bool
has_entries t d = list_any (λ x. x.0.directory == d) (entries t)

abbrev pub table_after : Table → EntryOp → Table
table_after t (Create e node) = insert t e node
table_after t (Link e kind file) = insert t e (File kind file)
table_after t (Delete e node) = remove t e
table_after t (Move a b node old) =
    option_map_or (λ held. insert (remove t a) b held) (get t a) t
table_after t Other = t

-- ---- paths

-- an entry of a directory with the path, and what is below it by this
abbrev pub below_entry : (Path → ℕ → List (Path × Node)) → Path → Entry × Node → List (Path × Node)
below_entry more path (e, Directory c) =
    (path ++ e.name ∷ [], Directory c) ∷ more (path ++ e.name ∷ []) c
below_entry more path (e, File kind file) = (path ++ e.name ∷ [], File kind file) ∷ []

abbrev pub below_if : (Path → ℕ → List (Path × Node)) → Path → ℕ → Entry × Node → List (Path × Node)
below_if more path d x = cond (x.0.directory == d) (below_entry more path x) []

-- what is below a directory with the path, so many names down
abbrev pub below : List (Entry × Node) → ℕ → Path → ℕ → List (Path × Node)
below es zero path d = []
below es (suc n) path d = flat_map (below_if (below es n) path d) es

-- what is reached from the root, so many names down
unfoldable pub paths_in : ℕ → Table → FinMap path_cmp Node
paths_in deep t = from_entries (([], Directory 0) ∷ below (entries t) deep [] 0)

-- the table after the first k operations that the set has
abbrev pub table_of : (ℕ → Bool) → Table → (ℕ → EntryOp) → ℕ → Table
table_of has t ops zero = t
table_of has t ops (suc k) =
    cond (has k) (table_after (table_of has t ops k) (ops k)) (table_of has t ops k)

-- the root is a directory, and each other path is in one
pub record AreNested (m : FinMap path_cmp Node) : Type 0 where
  pub root : (d : ℕ) × (get m [] ≡ Some (Directory d))
  pub nested : (p : Path) (node : Node) → get m p ≡ Some node → p ≢ [] → (d : ℕ)
      × (get m (parent_path p) ≡ Some (Directory d))
