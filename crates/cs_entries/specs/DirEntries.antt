-- The entries that lines name by their paths.
use Rattle.std.specs.Prelude.{◌≡◌, ◌≢◌, ℕ, ◌-◌, List, [], Some, length, slice_index_or}
use Rattle.cs_tree_model.specs.Tree.{Path, parent_path}
use Rattle.cs_entries.specs.declared.entry.DirEntry.{DirEntry}
use Rattle.cs_entries.specs.declared.node.Node.TheVariants.{Directory}
use Rattle.cs_entries.specs.Entries.{Entries, Entry}
use Rattle.cs_entries.specs.Paths.{at_path}

-- the name of a path in its directory
abbrev pub last_name : Path → List ℕ
last_name p = slice_index_or p (length p - 1) []

-- the entry that it is
abbrev pub entry_of : DirEntry → Entry
entry_of e = record { directory = e.directory; name = last_name e.path }

-- the path has a name, and leads to the entry: what is above it is the directory of the number
abbrev pub IsNamed : Entries → DirEntry → Type 0
IsNamed m e = (e.path ≢ []) × (at_path m (parent_path e.path) ≡ Some (Directory e.directory))

-- the place of the root, which is an entry of no directory: a place of its own, with no name
abbrev pub root_home : Entry
root_home = record { directory = 0; name = [] }
