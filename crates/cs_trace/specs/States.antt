-- The state after the lines of a trace, one after another.
use Rattle.std.specs.Prelude.{ℕ, ◌+◌, ◌==◌, List, [], ◌∷◌, ◌++◌, length, nat_lt, ◌||◌, Option, Some}
use Rattle.std.specs.Prelude.{None, false, true, Bool, if◌then◌else◌, Result, Ok, Err}
use Rattle.std.specs.FinMap.{get, insert}
use Rattle.std.specs.List.{slice_split}
use Rattle.std.specs.Option.{option_map_or}
use Rattle.cs_entries.specs.declared.node.FileKind.TheVariants.{Regular, Symlink}
use Rattle.cs_entries.specs.declared.node.Node.{Node}
use Rattle.cs_entries.specs.declared.node.Node.TheVariants.{Directory, File}
use Rattle.cs_entries.specs.DirEntries.{entry_of}
use Rattle.cs_entries.specs.Tables.{Table}
use Rattle.cs_tree_model.specs.Tree.{Path}
use Rattle.cs_trace.specs.Attributes.{Attributes, attributes_after, kept_in}
use Rattle.cs_trace.specs.Attributes.{with_directory, with_file}
use Rattle.cs_start.specs.Entries.{size_of}
use Rattle.cs_trace.specs.Judging.{and_then, entry_at, free_at, has_too_many_names, is_too_much}
use Rattle.cs_trace.specs.Judging.{resolve, unless_too_large, with_path}
use Rattle.cs_trace.specs.Limits.{most_bytes}
use Rattle.cs_trace_lines.specs.Lines.{Header, Line, Operation, Start, StartLine, StartLink}
use Rattle.cs_trace_lines.specs.Values.{Claims}
use Rattle.cs_trace_lines.specs.Lines.{StartContent, OfDirectory, OfFile, OfSymlink}
use Rattle.cs_trace_lines.specs.Lines.{UnknownOperation, UnknownStart, line_in}
use Rattle.cs_trace_lines.specs.Values.{is_blank}
use Rattle.cs_start.specs.Names.{entry_path_of}
use Rattle.cs_trace.specs.Names.{are_user_names, new_path_of, rights_of}
use Rattle.cs_trace.specs.Operations.{FileSystem, made_by, number_for, system_after}
use Rattle.cs_trace.specs.State.{State, empty_state}
use Rattle.cs_start.specs.declared.entry.StartEntry.{StartEntry}
use Rattle.cs_trace.specs.declared.fault.TraceFault.{TraceFault}
use Rattle.cs_trace.specs.declared.fault.TraceFaultKind.{TraceFaultKind}
use Rattle.cs_trace.specs.declared.fault.TraceFaultKind.TheVariants.{Syntax, UnknownOp, BadName}
use Rattle.cs_trace.specs.declared.fault.TraceFaultKind.TheVariants.{Missing, NotFile}
use Rattle.cs_trace.specs.declared.operation.Operation.{Operation as Resolved}
use Rattle.cs_trace_lines.specs.declared.version.Version.{Version}

-- ---- one line more

-- the bytes of a file or a symbolic link
abbrev pub bytes_of : StartContent → Option (List ℕ)
bytes_of OfDirectory = None
bytes_of (OfFile bytes) = Some bytes
bytes_of (OfSymlink target) = Some target

-- what a start line makes: a file or a symbolic link has the next number of a file
abbrev pub node_for : State → Path → StartContent → Node
node_for s p OfDirectory =
    Directory (number_for s.version s.system.homes (entry_of (entry_at s p)))
node_for s p (OfFile bytes) = File Regular (length s.system.sizes)
node_for s p (OfSymlink target) = File Symlink (length s.system.sizes)

-- the root has no entry
abbrev pub with_held : State → Path → Node → Table
with_held s [] node = s.system.entries
with_held s (name ∷ names) node =
    insert s.system.entries (entry_of (entry_at s (name ∷ names))) node

-- a file or a symbolic link has so many bytes, and a directory its home
abbrev pub system_with : State → Path → Node → Option (List ℕ) → FileSystem
system_with s p (Directory d) bytes = record s.system {
  entries = with_held s p (Directory d);
  homes = s.system.homes ++ entry_of (entry_at s p) ∷ [];
}
system_with s p (File kind file) bytes = record s.system {
  entries = with_held s p (File kind file);
  sizes = s.system.sizes ++ size_of bytes ∷ [];
}

abbrev pub files_with : List Path → Path → Node → List Path
files_with files p (Directory d) = files
files_with files p (File kind file) = files ++ p ∷ []

abbrev pub attributes_with : Attributes → StartEntry → Node → Attributes
attributes_with a e (Directory d) = with_directory a d e.rights
attributes_with a e (File kind file) = with_file a e.rights

-- a directory, a file or a symbolic link at the start
abbrev pub with_entry : State → Path → StartEntry → State
with_entry s p e = record s {
  start = insert s.start p e;
  files = files_with s.files p e.node;
  system = system_with s p e.node e.content;
  made = s.made + 1;
  attributes = kept_in s.version s.attributes (attributes_with s.attributes e e.node);
}

-- files and symbolic links are made at their own paths
abbrev pub is_leaf : Node → Bool
is_leaf (Directory d) = false
is_leaf (File kind file) = true

abbrev pub entry_for : Node → Claims → StartContent → StartEntry
entry_for node claims content = record {
  node = node;
  own = is_leaf node;
  rights = rights_of claims;
  content = bytes_of content;
}

abbrev pub with_start : State → Path → Claims → StartContent → State
with_start s p claims content = with_entry s p (entry_for (node_for s p content) claims content)

-- one path more, p, for a file at the start: a record of its own, with what the file has
abbrev pub with_link : State → Path → StartEntry → ℕ → State
with_link s p e file = record s {
  start = insert s.start p e;
  links = s.links ++ (p, file) ∷ [];
  system = record s.system { entries = with_held s p e.node };
  made = s.made + 1;
}

-- a trace of this version, with only the root
abbrev pub after_header : State → Version → Claims → State
after_header s version claims = with_start (record s { version = version }) [] claims OfDirectory

-- the first line is the header, which sets the version and adds the root
abbrev pub first_step : State → Line → Result State TraceFaultKind
first_step s (Header version claims) =
    if are_user_names claims then Ok (after_header s version claims) else Err BadName
first_step s _ = Err Syntax

-- a file, a symbolic link or a directory at the start, if its names are legal
abbrev pub start_at : State → Path → Claims → StartContent → Result State TraceFaultKind
start_at s p claims content =
    and_then (free_at s p) (λ _.
    unless_too_large
    (is_too_much s.made p || nat_lt (most_bytes s.version) (size_of (bytes_of content)))
    (with_start s p claims content))

abbrev pub start_step : State → StartLine → Result State TraceFaultKind
start_step s line =
    with_path (new_path_of line.path line.claims) (λ p. start_at s p line.claims line.content)

-- the file at a path of the start
abbrev pub start_file_by : StartEntry → Node → Result (StartEntry × ℕ) TraceFaultKind
start_file_by e (Directory d) = Err NotFile
start_file_by e (File Symlink file) = Err NotFile
start_file_by e (File Regular file) = Ok (e, file)

abbrev pub start_file_at : Option StartEntry → Result (StartEntry × ℕ) TraceFaultKind
start_file_at None = Err Missing
start_file_at (Some e) = start_file_by e e.node

-- one path more, q, for the file at p of the start
abbrev pub start_link_at : State → Path → Path → Result State TraceFaultKind
start_link_at s p q =
    and_then (start_file_at (get s.start p)) (λ e.
    and_then (free_at s q) (λ _.
    unless_too_large (has_too_many_names p || is_too_much s.made q)
    (with_link s q (record e.0 { own = false }) e.1)))

abbrev pub start_link_step : State → List ℕ → List ℕ → Result State TraceFaultKind
start_link_step s path from =
    with_path (entry_path_of path) (λ q. with_path (entry_path_of from) (λ p. start_link_at s p q))

abbrev pub after_operation : State → Resolved → State
after_operation s o = record s {
  system = system_after s.system o;
  made = s.made + made_by s.version o;
  attributes = kept_in s.version s.attributes (attributes_after s.attributes o);
  operations = s.operations ++ o ∷ [];
}

-- the others are start lines, and then operations
abbrev pub later_step : State → Line → Result State TraceFaultKind
later_step s (Header version claims) = Err Syntax
later_step s (Start line) = if length s.operations == 0 then start_step s line else Err Syntax
later_step s (StartLink path from) =
    if length s.operations == 0 then start_link_step s path from else Err Syntax
later_step s UnknownStart = if length s.operations == 0 then Err UnknownOp else Err Syntax
later_step s (Operation line) =
    and_then (resolve s line) (λ o. Ok (after_operation s o))
later_step s UnknownOperation = Err UnknownOp

abbrev pub line_step : State → Line → Result State TraceFaultKind
line_step s line = if s.made == 0 then first_step s line else later_step s line

-- the state after a line, which may be blank; the header is read alike in every version
abbrev pub step : State → List ℕ → Result State TraceFaultKind
step s text =
    if is_blank text then Ok s
    else option_map_or (line_step s) (line_in s.version text) (Err Syntax)

-- ---- all lines

-- a fault with the number of its line
abbrev pub at_line : ℕ → Result State TraceFaultKind → Result State TraceFault
at_line number (Ok s) = Ok s
at_line number (Err kind) = Err (record { line = number; kind = kind })

-- the state after these lines, the first of which has that number; or the first fault
abbrev pub state_from : State → ℕ → List (List ℕ) → Result State TraceFault
state_from s number [] = Ok s
state_from s number (text ∷ lines) =
    and_then (at_line number (step s text)) (λ next. state_from next (number + 1) lines)

-- the state after a trace's lines
abbrev pub state_in : List (List ℕ) → Result State TraceFault
state_in lines = state_from empty_state 1 lines

-- the lines of a text, cut at the line feeds
abbrev pub lines_in : List ℕ → List (List ℕ)
lines_in text = slice_split (λ c. c == 10) text
