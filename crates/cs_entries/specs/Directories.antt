-- What each entry holds, by the maps of all directories.
use Rattle.std.specs.Prelude.{ℕ, ◌+◌, List, [], ◌∷◌, ◌++◌, map as map_list, slice_get}
use Rattle.std.specs.Prelude.{option_and_then, refl}
use Rattle.std.specs.Coded.{Coded, code_by, coded×, coded_list, coded_ℕ}
use Rattle.std.specs.FinMap as map
use Rattle.std.specs.HashMap.{HashMap, get_by_text}
use Rattle.std.specs.declared.string.String.{String}
use Rattle.cs_tree_model.specs.Maps.Texts.{by_bytes}
use Rattle.cs_tree_model.specs.Tree.{NameBytes}
use Rattle.cs_entries.specs.Entries.{Entries, Entry}
use Rattle.cs_entries.specs.Nodes.{coded_node}
use Rattle.cs_entries.specs.Paths.{entry_in}
use Rattle.cs_entries.specs.Tables.{Table}
use Rattle.cs_entries.specs.declared.node.Node.{Node}

-- each directory, by its number, has a map from names
abbrev pub entries_in : {Y S : Type 0} → List (HashMap (String Y) Node S) → Entries
entries_in ds e =
    option_and_then (λ names. get_by_text names e.name) (slice_get ds e.directory)

-- what the entries of a directory hold
abbrev pub with_directory : ℕ → List (NameBytes × Node) → List (Entry × Node)
with_directory d = map_list (λ x. (entry_in d x.0, x.1))

-- what those of all directories hold, the first of which has this number
abbrev pub entries_from : {Y S : Type 0} → ℕ → List (HashMap (String Y) Node S)
    → List (Entry × Node)
entries_from d [] = []
entries_from d (m ∷ ms) = with_directory d (by_bytes m.entries) ++ entries_from (d + 1) ms

-- the same as one map
unfoldable pub table_by : {Y S : Type 0} → List (HashMap (String Y) Node S) → Table
table_by ds = map.from_entries (entries_from 0 ds)

abbrev pub coded_entry : Coded Entry
coded_entry =
    code_by (ℕ × List ℕ) (coded× coded_ℕ (coded_list coded_ℕ)) (λ e. (e.directory, e.name))
    (λ p. record { directory = p.0; name = p.1 }) (λ _. refl)

abbrev pub coded_table : Coded Table
coded_table = map.code coded_entry coded_node
