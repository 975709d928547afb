-- A trace: its start tree, and its operations.
use Rattle.std.specs.Prelude.{◌≡◌, ◌∷◌, zero, suc, ℕ, ◌+◌, ◌-◌, ◌<◌, ◌≤◌, ◌==◌, Bool, true, false}
use Rattle.std.specs.Prelude.{List, [], filter, length, map, take}
use Rattle.std.specs.Prelude.{Option, None, Some, slice_get, if◌then◌else◌, Result, Ok, Err, IsOk}
use Rattle.std.specs.FinMap.{FinMap, entries, from_entries, get}
use Rattle.std.specs.List.{All, flat_map, slice_index_or, sum_by, zip}
use Rattle.std.specs.List.Sorted.{IsStrictlySortedBy}
use Rattle.std.specs.Option.{option_map_or}
use Rattle.cs_entries.specs.declared.node.FileKind.TheVariants.{Regular}
use Rattle.cs_entries.specs.declared.node.Node.{Node}
use Rattle.cs_entries.specs.declared.node.Node.TheVariants.{Directory, File}
use Rattle.cs_entries.specs.DirEntries.{entry_of, root_home}
use Rattle.cs_entries.specs.declared.entry.Entry.{Entry}
use Rattle.cs_entries.specs.Legal.{IsTree}
use Rattle.cs_entries.specs.Tables.{AreNested, Table, held_in}
use Rattle.cs_names.specs.declared.limits.TheConstants.{TREE_RECORDS}
use Rattle.cs_tree_model.specs.Fresh.{fresh_record}
use Rattle.cs_tree_model.specs.Listing.{IsListing}
use Rattle.cs_tree_model.specs.Tree.{Path, parent_path, path_cmp}
use Rattle.cs_tree_model.specs.declared.record.Record.{Record}
use Rattle.cs_start.specs.Entries.{file_mode, nodes_in, records_in, size_of}
use Rattle.cs_trace.specs.Judging.{and_then, directory_number, entry_below}
use Rattle.cs_trace.specs.Limits.{most_bytes}
use Rattle.cs_trace_lines.specs.Values.{is_blank}
use Rattle.cs_trace.specs.Operations.{AreLegal, FileSystem, made_by}
use Rattle.cs_trace.specs.State.{State}
use Rattle.cs_trace.specs.States.{lines_in, state_in}
use Rattle.cs_trace.specs.declared.fault.TraceFault.{TraceFault}
use Rattle.cs_trace.specs.declared.fault.TraceFaultKind.TheVariants.{Syntax}
use Rattle.cs_trace.specs.declared.operation.Operation.{Operation}
use Rattle.cs_trace_lines.specs.declared.version.Version.{Version}

-- the records of the start tree in the order of their paths, with fresh numbers; what each of them
-- is, in the same order; the path that each of the start's files was made at, in the order of their
-- numbers; the further paths of these files, in the order of their lines, each with the file's
-- number; the operations; the version, which says what the file system keeps in order
pub record Trace : Type 0 where
  pub records : List (Path × Record)
  pub nodes : List Node
  pub files : List Path
  pub links : List (Path × ℕ)
  pub operations : List Operation
  pub version : Version

-- ---- the start

-- what is at each path
abbrev pub Paths : Type 0
Paths = FinMap path_cmp Node

-- each record's path with the file or directory there
abbrev pub paths_of_records : List (Path × Record) → List Node → Paths
paths_of_records records nodes = from_entries (zip (map (λ e. e.0) records) nodes)

-- what is at each path at the start
abbrev pub start_paths : Trace → Paths
start_paths t = paths_of_records t.records t.nodes

-- the entry of a path: its last name, in the directory above it
abbrev pub entry_in_paths : Paths → Path → Entry
entry_in_paths m p = entry_of (entry_below (directory_number (get m (parent_path p))) p)

-- the root has no entry
abbrev pub held_by_path : Paths → Path × Node → List (Entry × Node)
held_by_path m ([], node) = []
held_by_path m (name ∷ names, node) = (entry_in_paths m (name ∷ names), node) ∷ []

-- what each entry holds, by what is at each path
unfoldable pub entries_of_paths : Paths → Table
entries_of_paths m = from_entries (flat_map (held_by_path m) (entries m))

abbrev pub start_table : Trace → Table
start_table t = entries_of_paths (start_paths t)

-- the record at a path
abbrev pub record_in : List (Path × Record) → Path → Option Record
record_in records p = get (from_entries {R = path_cmp} records) p

-- the path of the record at a place; past the end the root's
abbrev pub path_at : {X : Type 0} → List (Path × X) → ℕ → Path
path_at [] place = []
path_at (e ∷ es) zero = e.0
path_at (e ∷ es) (suc place) = path_at es place

-- how many bytes it has
abbrev pub size_at : List (Path × Record) → Path → ℕ
size_at records p = option_map_or (λ r. size_of r.content) (record_in records p) 0

-- the size of each of the start's files, by its number
abbrev pub start_sizes : Trace → List ℕ
start_sizes t = map (size_at t.records) t.files

-- how many records were ever made, removed ones too
abbrev pub records_made : Trace → ℕ
records_made t = length t.records + sum_by (made_by t.version) t.operations

-- a record of this number that no client has changed: its version and its times are 0, the user who
-- changed it last is its owner, and its mode is three octal digits, with the bits of its kind above
-- them
pub record IsUnchanged (number : ℕ) (node : Node) (r : Record) : Type 0 where
  pub fresh : r ≡ fresh_record number r
  pub permissions : ℕ
  pub octal : permissions ≤ 511
  pub mode : r.mode ≡ file_mode node permissions

-- what the record is: a directory has no content; a file or a symbolic link has one, perhaps empty
abbrev pub IsNodeOf : Node → Record → Type 0
IsNodeOf (Directory number) r = r.content ≡ None
IsNodeOf (File kind file) r = (bytes : List ℕ) × (r.content ≡ Some bytes)

-- the node is what the record at its place n is; no client has changed it, and its number is n
pub record IsRecordOf (n : ℕ) (node : Node) (r : Record) : Type 0 where
  pub unchanged : IsUnchanged n node r
  pub kind : IsNodeOf node r

abbrev pub AreRecordsOf : List Node → List (Path × Record) → Type 0
AreRecordsOf nodes records =
    (n : ℕ) (node : Node) (e : Path × Record)
    → slice_get nodes n ≡ Some node → slice_get records n ≡ Some e → IsRecordOf n node e.1

-- what is at a path, and its record
abbrev pub StandsAs : Option Node → Option Record → Type 0
StandsAs None None = Unit {0}
StandsAs (Some node) (Some r) = IsNodeOf node r
StandsAs None (Some r) = ⊥
StandsAs (Some node) None = ⊥

-- the records of two paths of one file: the same bytes, owner, group and mode
pub record AreAlike (r s : Record) : Type 0 where
  pub content : r.content ≡ s.content
  pub owner : r.owner ≡ s.owner
  pub group : r.group ≡ s.group
  pub mode : r.mode ≡ s.mode

abbrev pub AreAlikeAt : Option Record → Option Record → Type 0
AreAlikeAt None beside = ⊥
AreAlikeAt (Some r) None = ⊥
AreAlikeAt (Some r) (Some s) = AreAlike r s

-- the path is one of the file of that number: its record is like that of the path that the file was
-- made at
pub record IsPathOf (t : Trace) (file : ℕ) (p : Path) : Type 0 where
  pub own : Path
  pub at : slice_get t.files file ≡ Some own
  pub alike : AreAlikeAt (record_in t.records p) (record_in t.records own)

-- a file or a symbolic link of the number
abbrev pub IsFileNumbered : ℕ → Option Node → Type 0
IsFileNumbered n (Some (File kind file)) = file ≡ n
IsFileNumbered n _ = ⊥

-- each of these paths is one of the regular file of its number
abbrev pub AreLinks : Paths → List (Path × ℕ) → Type 0
AreLinks m links =
    (n : ℕ) (link : Path × ℕ) → slice_get links n ≡ Some link
    → get m link.0 ≡ Some (File Regular link.1)

abbrev pub is_directory : Node → Bool
is_directory (Directory number) = true
is_directory (File kind file) = false

-- how many directories the start has
abbrev pub directory_count : List Node → ℕ
directory_count nodes = length (filter is_directory nodes)

-- the entry of each directory of the start by its number, the root's first
pub record AreHomes (t : Table) (homes : List Entry) : Type 0 where
  pub root : slice_get homes 0 ≡ Some root_home
  pub each : (e : Entry) (d : ℕ) → get t e ≡ Some (Directory d) → slice_get homes d ≡ Some e

-- the operations are legal from the start on
pub record AreLegalFromStart (t : Trace) : Type 0 where
  pub homes : List Entry
  pub are : AreHomes (start_table t) homes
  pub many : length homes ≡ directory_count t.nodes
  pub legal : AreLegal t.version (record {
    entries = start_table t;
    sizes = start_sizes t;
    homes = homes;
  }) t.operations

-- a trace that was read: its start is a tree, whose records nobody changed, in the order of their
-- paths and numbered from 0; the nodes are what the records are; the n-th path of a file has
-- the file of that number, and each other path of it has a record like its own; each operation is
-- legal in what the ones before it leave; and no limit is passed
pub record IsTrace (t : Trace) : Type 0 where
  pub listing : IsListing t.records
  pub ascending : IsStrictlySortedBy path_cmp (map (λ e. e.0) t.records)
  pub few : records_made t ≤ TREE_RECORDS
  pub small : All (λ size. size ≤ most_bytes t.version) (start_sizes t)
  pub each : length t.nodes ≡ length t.records
  pub kinds : AreRecordsOf t.nodes t.records
  pub stands : (p : Path) → StandsAs (get (start_paths t) p) (record_in t.records p)
  pub nested : AreNested (start_paths t)
  pub root : get (start_paths t) [] ≡ Some (Directory 0)
  pub tree : IsTree (held_in (start_table t))
  pub numbered : (n : ℕ) (p : Path)
      → slice_get t.files n ≡ Some p → IsFileNumbered n (get (start_paths t) p)
  pub linked : AreLinks (start_paths t) t.links
  pub found : (n : ℕ) (p : Path) → IsFileNumbered n (get (start_paths t) p) → IsPathOf t n p
  pub legal : AreLegalFromStart t

-- ---- the trace of a text

-- the state after the lines, as a trace
abbrev pub trace_of_state : State → Trace
trace_of_state s = record {
  records = records_in s.start;
  nodes = nodes_in s.start;
  files = s.files;
  links = s.links;
  operations = s.operations;
  version = s.version;
}

-- with no line that says something there is no header
abbrev pub trace_of : State → Result Trace TraceFault
trace_of s = if s.made == 0 then Err (record { line = 1; kind = Syntax }) else Ok (trace_of_state s)

abbrev pub trace_by : List (List ℕ) → Result Trace TraceFault
trace_by lines = and_then (state_in lines) trace_of

-- the trace that a text spells, or the fault of its first line that has one
unfoldable pub trace_in : List ℕ → Result Trace TraceFault
trace_in text = trace_by (lines_in text)

-- reading may run out of memory at the line of that number: it is one of the lines, and those
-- before it have no fault. It is blank only if it is the last, no line has a fault, and only the
-- records had still to be made
pub record MayWant (lines : List (List ℕ)) (number : ℕ) : Type 0 where
  pub above : 0 < number
  pub among : number ≤ length lines
  pub before : IsOk (state_in (take (number - 1) lines))
  pub blank : is_blank (slice_index_or lines (number - 1) []) ≡ true
      → (number ≡ length lines) × IsOk (trace_by lines)
