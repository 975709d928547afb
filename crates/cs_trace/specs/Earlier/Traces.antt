-- A trace, as before version 4.
use Rattle.std.specs.Prelude.{◌≡◌, ◌∷◌, zero, suc, ℕ, ◌+◌, ◌-◌, ◌<◌, ◌≤◌, ◌==◌, true, List, [], length, map, take}
use Rattle.std.specs.Prelude.{Option, None, Some, slice_get, if◌then◌else◌, Result, Ok, Err, IsOk}
use Rattle.std.specs.FinMap.{from_entries, get}
use Rattle.std.specs.List.{All, slice_index_or, sum_by, zip}
use Rattle.std.specs.List.Sorted.{IsStrictlySortedBy}
use Rattle.std.specs.Option.{option_map_or}
use Rattle.cs_names.specs.declared.limits.TheConstants.{FILE_BYTES, TREE_RECORDS}
use Rattle.cs_tree_model.specs.Fresh.{fresh_record}
use Rattle.cs_tree_model.specs.Listing.{IsListing}
use Rattle.cs_tree_model.specs.Tree.{Path, path_cmp}
use Rattle.cs_tree_model.specs.declared.record.Record.{Record}
use Rattle.cs_trace.specs.Earlier.Entries.{file_mode, nodes_in, records_in, size_of}
use Rattle.cs_trace.specs.Earlier.Judging.{and_then}
use Rattle.cs_trace_lines.specs.Earlier.Lines.{is_blank}
use Rattle.cs_trace.specs.Earlier.Operations.{AreLegal, AreNested, Paths, made_by}
use Rattle.cs_trace.specs.Earlier.States.{State, lines_in, state_in}
use Rattle.cs_trace.specs.declared.fault.TraceFault.{TraceFault}
use Rattle.cs_trace.specs.declared.fault.TraceFaultKind.TheVariants.{Syntax}
use Rattle.cs_trace.specs.Earlier.Node.{Node}
use Rattle.cs_trace.specs.Earlier.Node.{Directory, File}
use Rattle.cs_trace.specs.Earlier.Operation.{Operation}
use Rattle.cs_trace_lines.specs.Earlier.Version.{Version}

-- the records of the start tree in the order of their paths, with fresh numbers; what each of them
-- is, in the same order; the path that each of the start's files was made at, in the order of their
-- numbers; the further paths of these files, in the order of their lines, each with the file's
-- number; the operations; the version, which says what the file system keeps in order
pub record Trace : Type 0 where
  pub records : List (Path × Record)
  pub nodes : List Node
  pub files : List Path
  pub links : List (Path × ℕ)
  pub operations : List Operation
  pub version : Version

-- ---- the start

-- each record's path with the file or directory there
abbrev pub paths_of_records : List (Path × Record) → List Node → Paths
paths_of_records records nodes = from_entries (zip (map (λ e. e.0) records) nodes)

-- what is at each path at the start
abbrev pub start_paths : Trace → Paths
start_paths t = paths_of_records t.records t.nodes

-- the record at a path
abbrev pub record_in : List (Path × Record) → Path → Option Record
record_in records p = get (from_entries {R = path_cmp} records) p

-- the path of the record at a place; past the end the root's
abbrev pub path_at : {X : Type 0} → List (Path × X) → ℕ → Path
path_at [] place = []
path_at (e ∷ es) zero = e.0
path_at (e ∷ es) (suc place) = path_at es place

-- how many bytes it has
abbrev pub size_at : List (Path × Record) → Path → ℕ
size_at records p = option_map_or (λ r. size_of r.content) (record_in records p) 0

-- the size of each of the start's files, by its number
abbrev pub start_sizes : Trace → List ℕ
start_sizes t = map (size_at t.records) t.files

-- how many records were ever made, removed ones too
abbrev pub records_made : Trace → ℕ
records_made t = length t.records + sum_by made_by t.operations

-- a record that nobody changed yet, of this number: its version and its times are 0, its owner is
-- who changed it last, and its mode is three octal digits, with a directory's bit above them
pub record IsUnchanged (number : ℕ) (r : Record) : Type 0 where
  pub fresh : r ≡ fresh_record number r
  pub permissions : ℕ
  pub octal : permissions ≤ 511
  pub mode : r.mode ≡ file_mode r.content permissions

-- nobody changed any of them yet, and each has the number of its place
abbrev pub AreUnchanged : List (Path × Record) → Type 0
AreUnchanged records =
    (n : ℕ) (e : Path × Record) → slice_get records n ≡ Some e → IsUnchanged n e.1

-- what the record is: a directory has no bytes, and a file has some, or none yet
abbrev pub IsNodeOf : Node → Record → Type 0
IsNodeOf Directory r = r.content ≡ None
IsNodeOf (File file) r = (bytes : List ℕ) × (r.content ≡ Some bytes)

-- each node is what the record at its place is
abbrev pub AreNodesOf : List Node → List (Path × Record) → Type 0
AreNodesOf nodes records =
    (n : ℕ) (node : Node) (e : Path × Record)
    → slice_get nodes n ≡ Some node → slice_get records n ≡ Some e → IsNodeOf node e.1

-- what is at a path, and its record
abbrev pub StandsAs : Option Node → Option Record → Type 0
StandsAs None None = Unit {0}
StandsAs (Some node) (Some r) = IsNodeOf node r
StandsAs None (Some r) = ⊥
StandsAs (Some node) None = ⊥

-- the records of two paths of one file: the same bytes, owner, group and mode
pub record AreAlike (r s : Record) : Type 0 where
  pub content : r.content ≡ s.content
  pub owner : r.owner ≡ s.owner
  pub group : r.group ≡ s.group
  pub mode : r.mode ≡ s.mode

abbrev pub AreAlikeAt : Option Record → Option Record → Type 0
AreAlikeAt None beside = ⊥
AreAlikeAt (Some r) None = ⊥
AreAlikeAt (Some r) (Some s) = AreAlike r s

-- the path is one of the file of that number: its record is like that of the path that the file was
-- made at
pub record IsPathOf (t : Trace) (file : ℕ) (p : Path) : Type 0 where
  pub own : Path
  pub at : slice_get t.files file ≡ Some own
  pub alike : AreAlikeAt (record_in t.records p) (record_in t.records own)

-- each of these paths is one of the file of its number
abbrev pub AreLinks : Paths → List (Path × ℕ) → Type 0
AreLinks m links =
    (n : ℕ) (link : Path × ℕ) → slice_get links n ≡ Some link → get m link.0 ≡ Some (File link.1)

-- a trace that was read: its start is a tree, whose records nobody changed, in the order of their
-- paths and numbered from 0; the nodes are what the records are; the n-th path of a file has
-- the file of that number, and each other path of it has a record like its own; each operation is
-- legal in what the ones before it leave; and no limit is passed
pub record IsTrace (t : Trace) : Type 0 where
  pub listing : IsListing t.records
  pub ascending : IsStrictlySortedBy path_cmp (map (λ e. e.0) t.records)
  pub unchanged : AreUnchanged t.records
  pub few : records_made t ≤ TREE_RECORDS
  pub small : All (λ size. size ≤ FILE_BYTES) (start_sizes t)
  pub each : length t.nodes ≡ length t.records
  pub kinds : AreNodesOf t.nodes t.records
  pub stands : (p : Path) → StandsAs (get (start_paths t) p) (record_in t.records p)
  pub nested : AreNested (start_paths t)
  pub numbered : (n : ℕ) (p : Path)
      → slice_get t.files n ≡ Some p → get (start_paths t) p ≡ Some (File n)
  pub linked : AreLinks (start_paths t) t.links
  pub found : (n : ℕ) (p : Path) → get (start_paths t) p ≡ Some (File n) → IsPathOf t n p
  pub legal : AreLegal (start_paths t) (start_sizes t) t.operations

-- ---- the trace of a text

-- the state after the lines, as a trace
abbrev pub trace_of_state : State → Trace
trace_of_state s = record {
  records = records_in s.start;
  nodes = nodes_in s.start;
  files = s.files;
  links = s.links;
  operations = s.operations;
  version = s.version;
}

-- with no line that says something there is no header
abbrev pub trace_of : State → Result Trace TraceFault
trace_of s = if s.made == 0 then Err (record { line = 1; kind = Syntax }) else Ok (trace_of_state s)

abbrev pub trace_by : List (List ℕ) → Result Trace TraceFault
trace_by lines = and_then (state_in lines) trace_of

-- the trace that a text spells, or the fault of its first line that has one
unfoldable pub trace_in : List ℕ → Result Trace TraceFault
trace_in text = trace_by (lines_in text)

-- reading may be out of memory at the line of that number: it is one of the lines, those before it
-- have no fault, and it isn't blank, unless it is the last, the whole has no fault, and only the
-- records have still to be made
pub record MayWant (lines : List (List ℕ)) (number : ℕ) : Type 0 where
  pub above : 0 < number
  pub among : number ≤ length lines
  pub before : IsOk (state_in (take (number - 1) lines))
  pub blank : is_blank (slice_index_or lines (number - 1) []) ≡ true
      → (number ≡ length lines) × IsOk (trace_by lines)
