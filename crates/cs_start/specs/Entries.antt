-- What is at each path at the start.
use Rattle.std.specs.Prelude.{ℕ, Bool, ◌+◌, ◌++◌, List, Option, None, Some, length, map, refl}
use Rattle.std.specs.Coded.{Coded, code_by, coded×, coded_ℕ, coded_bool, coded_list, coded_option}
use Rattle.std.specs.FinMap.{FinMap, code, entries}
use Rattle.cs_entries.specs.declared.node.FileKind.{FileKind}
use Rattle.cs_entries.specs.declared.node.FileKind.TheVariants.{Regular, Symlink}
use Rattle.cs_entries.specs.declared.node.Node.{Node}
use Rattle.cs_entries.specs.declared.node.Node.TheVariants.{Directory, File}
use Rattle.cs_entries.specs.Nodes.{coded_node}
use Rattle.cs_tree_model.specs.Fresh.{listing, with_numbers_from}
use Rattle.cs_tree_model.specs.Maps.Values.{map_entries, map_values}
use Rattle.cs_tree_model.specs.Tree.{Path, path_cmp}
use Rattle.cs_tree_model.specs.declared.mode.TheConstants.{DMDIR, DMSYMLINK}
use Rattle.cs_tree_model.specs.declared.record.Record.{Record}
use Rattle.cs_start.specs.declared.entry.StartEntry.{StartEntry}

-- in the order of paths
abbrev pub StartEntries : Type 0
StartEntries = FinMap path_cmp StartEntry

abbrev pub entry_code : Coded StartEntry
entry_code = code_by
    (Node × (Bool × (List ℕ × (List ℕ × (ℕ × Option (List ℕ))))))
    (coded× coded_node
    (coded× coded_bool
    (coded× (coded_list coded_ℕ)
    (coded× (coded_list coded_ℕ)
    (coded× coded_ℕ (coded_option (coded_list coded_ℕ)))))))
    (λ e. (
      e.node,
      (e.own, (e.rights.owner, (e.rights.group, (e.rights.permissions, e.content)))),
    ))
    (λ p. record {
      node = p.0;
      own = p.1.0;
      rights = record { owner = p.1.1.0; group = p.1.1.1.0; permissions = p.1.1.1.1.0 };
      content = p.1.1.1.1.1;
    })
    (λ _. refl)

abbrev pub entries_code : Coded StartEntries
entries_code = code (coded_list (coded_list coded_ℕ)) entry_code

-- the bytes of a file; a directory has none
abbrev pub size_of : Option (List ℕ) → ℕ
size_of None = 0
size_of (Some bytes) = length bytes

-- the bits that say what a record is of
abbrev pub kind_bits : Node → ℕ
kind_bits (Directory number) = DMDIR
kind_bits (File Regular file) = 0
kind_bits (File Symlink file) = DMSYMLINK

-- the permissions, with these bits above them
abbrev pub file_mode : Node → ℕ → ℕ
file_mode node permissions = kind_bits node + permissions

-- the record of an entry, which nobody changed and which has no number yet
abbrev pub record_of : StartEntry → Record
record_of e = record {
  number = 0;
  vers = 0;
  owner = e.rights.owner;
  group = e.rights.group;
  mode = file_mode e.node e.rights.permissions;
  atime = 0;
  mtime = 0;
  muid = e.rights.owner;
  content = e.content;
}

-- the records in the order of their paths, with fresh numbers
abbrev pub records_in : StartEntries → List (Path × Record)
records_in m = listing (map_values record_of m)

-- what each of them is, in the same order
abbrev pub nodes_in : StartEntries → List Node
nodes_in m = map (λ e. e.1.node) (entries m)

-- these records, and the records of the entries, with the next numbers
abbrev pub with_records : List (Path × Record) → List (Path × StartEntry) → List (Path × Record)
with_records rs es = rs ++ with_numbers_from (length rs) (map_entries record_of es)

-- these nodes, and then the nodes of the entries
abbrev pub with_nodes : List Node → List (Path × StartEntry) → List Node
with_nodes ns es = ns ++ map (λ e. e.1.node) es
