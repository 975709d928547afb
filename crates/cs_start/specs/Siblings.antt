-- The entries of one directory at the start.
use Rattle.std.specs.Prelude.{T, ◌≡◌, ◌∷◌, ◌++◌, List, [], Option, None, Some, IsSome, refl}
use Rattle.std.specs.Coded.{Coded, code_by, coded×, coded_ℕ, coded_list}
use Rattle.std.specs.FinMap.{entries, from_entries, get, insert}
use Rattle.std.specs.FinMap.Entries.{below_all}
use Rattle.std.specs.List.{AllByRecursion}
use Rattle.cs_names.specs.Legal.{IsLegalName}
use Rattle.cs_tree_model.specs.Tree.{NameBytes, Path, path_cmp}
use Rattle.cs_start.specs.Entries.{StartEntries, entries_code}
use Rattle.cs_start.specs.Unions.{union}
use Rattle.cs_start.specs.declared.entry.StartEntry.{StartEntry}

-- the directory's path, and its entries at their whole paths
pub record Siblings : Type 0 where
  pub directory : Path
  pub entries : StartEntries

abbrev pub siblings_code : Coded Siblings
siblings_code = code_by
    (Path × StartEntries)
    (coded× (coded_list (coded_list coded_ℕ)) entries_code)
    (λ s. (s.directory, s.entries))
    (λ p. record { directory = p.0; entries = p.1 })
    (λ _. refl)

-- the entries of names, at the paths of these names in the directory
abbrev pub in_directory : Path → List (NameBytes × StartEntry) → List (Path × StartEntry)
in_directory d [] = []
in_directory d (e ∷ es) = (d ++ e.0 ∷ [], e.1) ∷ in_directory d es

abbrev pub siblings_of : Path → List (NameBytes × StartEntry) → Siblings
siblings_of d es = record { directory = d; entries = from_entries (in_directory d es) }

-- each name is a legal one of a file
abbrev pub HaveLegalNames : List (NameBytes × StartEntry) → Type 0
HaveLegalNames [] = Unit {0}
HaveLegalNames (e ∷ es) = IsLegalName e.0 × HaveLegalNames es

-- the path is that of a name in the directory
abbrev pub IsIn : Path → Path → Type 0
IsIn d p = (n : NameBytes) × (p ≡ d ++ n ∷ [])

-- all entries are in the directory
abbrev pub AreIn : Siblings → Type 0
AreIn s = (p : Path) → IsSome (get s.entries p) → IsIn s.directory p

-- none of these entries is in the directory
abbrev pub AreElsewhere : Siblings → StartEntries → Type 0
AreElsewhere s m = (n : NameBytes) → get m (s.directory ++ n ∷ []) ≡ None

-- the map with these entries, put in one after another
abbrev pub with_all : StartEntries → List (Path × StartEntry) → StartEntries
with_all m [] = m
with_all m (e ∷ es) = with_all (insert m e.0 e.1) es

-- the siblings' entries, if there are any, and the others
abbrev pub with_siblings : Option Siblings → StartEntries → StartEntries
with_siblings None m = m
with_siblings (Some s) m = union s.entries m

-- the others have no entry in the siblings' directory
abbrev pub AreApart : Option Siblings → StartEntries → Type 0
AreApart None m = Unit {0}
AreApart (Some s) m = AreElsewhere s m

-- the map begins with an entry at the path
abbrev pub BeginsAt : StartEntries → Path → Type 0
BeginsAt m p = (e : StartEntry) × ((es : List (Path × StartEntry)) × (entries m ≡ (p, e) ∷ es))

-- each path of the first list is before all of the second
abbrev pub AreBefore : List (Path × StartEntry) → List (Path × StartEntry) → Type 0
AreBefore es fs = AllByRecursion (λ e. T (below_all path_cmp e.0 fs)) es
