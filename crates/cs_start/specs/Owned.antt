-- The path that each file at the start was made at, from the entries alone.
use Rattle.std.specs.Prelude.{ℕ, ◌+◌, slice_set, ◌<◌, ◌≡◌, ◌==◌, ◌&&◌, Bool, true, zero, suc, List, [], ◌∷◌, ◌++◌, Option, None, Some, length, if◌then◌else◌}
use Rattle.std.specs.FinMap.{entries}
use Rattle.std.specs.Option.{option_or}
use Rattle.cs_tree_model.specs.Tree.{Path}
use Rattle.cs_start.specs.Entries.{StartEntries}
use Rattle.cs_entries.specs.declared.node.Node.{Node}
use Rattle.cs_entries.specs.declared.node.Node.TheVariants.{Directory, File}
use Rattle.cs_start.specs.declared.entry.StartEntry.{StartEntry}

-- the number of a directory or a file
abbrev pub number_of : Node → ℕ
number_of (Directory number) = number
number_of (File kind file) = file

-- the file of the number was made at the entry's path
abbrev pub is_own : ℕ → StartEntry → Bool
is_own n e = e.own && (number_of e.node == n)

-- the path of the last of these entries at whose path the file was made
abbrev pub own_in : ℕ → List (Path × StartEntry) → Option Path
own_in n [] = None
own_in n (e ∷ es) = option_or (own_in n es) (if is_own n e.1 then Some e.0 else None)

-- the path that was found, or the root's path if none was
abbrev pub or_root : Option Path → Path
or_root None = []
or_root (Some p) = p

-- the path of each of the first `count` files, by their numbers
abbrev pub own_paths : StartEntries → ℕ → List Path
own_paths m zero = []
own_paths m (suc n) = own_paths m n ++ or_root (own_in n (entries m)) ∷ []

-- the number of each entry's own file is below the count
abbrev pub AreBelow : List (Path × StartEntry) → ℕ → Type 0
AreBelow [] count = Unit {0}
AreBelow (e ∷ es) count = (e.1.own ≡ true → number_of e.1.node < count) × AreBelow es count

-- the place of the entry, if a file was made at its path
abbrev pub with_place : List ℕ → ℕ → StartEntry → List ℕ
with_place places next e = if e.own then slice_set places (number_of e.node) next else places

-- the places of entries that come one after another
abbrev pub with_places : List ℕ → ℕ → List (Path × StartEntry) → List ℕ
with_places places next [] = places
with_places places next (e ∷ es) = with_places (with_place places next e.1) (next + 1) es
