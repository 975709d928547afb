-- The files and directories at the start, some of which keep only a name.
use Rattle.std.specs.Prelude.{◌∷◌, ◌++◌, ℕ, List, [], map, string_bytes}
use Rattle.cs_names.specs.Legal.{IsLegalName}
use Rattle.cs_tree_model.specs.Fresh.{fresh_record, with_numbers_from}
use Rattle.cs_tree_model.specs.Maps.Values.{map_entries}
use Rattle.cs_tree_model.specs.Tree.{Path}
use Rattle.cs_tree_model.specs.declared.record.Record.{Record}
use Rattle.cs_start.specs.Entries.{record_of}
use Rattle.cs_start.specs.declared.entry.StartEntry.{StartEntry}
use Rattle.cs_start.specs.declared.start_records.StartPath.{StartPath}
use Rattle.cs_start.specs.declared.start_records.StartPath.TheVariants.{Whole, Child}

-- the path itself, or that of a name in the directory
abbrev pub whole_path : Path → StartPath → Path
whole_path d (Whole p) = p
whole_path d (Child name) = d ++ string_bytes name ∷ []

-- the path and the record of an entry at that place
abbrev pub record_at : ℕ → Path → StartPath → StartEntry → Path × Record
record_at k d p e = (whole_path d p, fresh_record k (record_of e))

-- each entry with its whole path
abbrev pub with_whole_paths : Path → List (StartPath × StartEntry) → List (Path × StartEntry)
with_whole_paths d es = map (λ e. (whole_path d e.0, e.1)) es

-- the record of each entry, numbered from 0
abbrev pub start_records : Path → List (StartPath × StartEntry) → List (Path × Record)
start_records d es = with_numbers_from 0 (map_entries record_of (with_whole_paths d es))

-- if a path is kept by its name, the name is legal
abbrev pub IsLegalPath : StartPath → Type 0
IsLegalPath (Whole p) = Unit {0}
IsLegalPath (Child name) = IsLegalName (string_bytes name)

abbrev pub AreLegalEntries : List (StartPath × StartEntry) → Type 0
AreLegalEntries [] = Unit {0}
AreLegalEntries (e ∷ es) = IsLegalPath e.0 × AreLegalEntries es
