-- The state after the lines of a trace, as before version 4.
use Rattle.std.specs.Prelude.{ℕ, ◌+◌, ◌==◌, List, [], ◌∷◌, ◌++◌, length, nat_lt, ◌||◌, Option, Some, false}
use Rattle.std.specs.Prelude.{None, if◌then◌else◌, Result, Ok, Err}
use Rattle.std.specs.FinMap.{empty, get, insert}
use Rattle.std.specs.List.{slice_split}
use Rattle.std.specs.Option.{is_some, option_map_or}
use Rattle.cs_names.specs.declared.limits.TheConstants.{FILE_BYTES}
use Rattle.cs_tree_model.specs.Tree.{Path}
use Rattle.cs_trace.specs.Earlier.Attributes.{Attributes, attributes_after, kept_in, no_attributes}
use Rattle.cs_trace.specs.Earlier.Attributes.{with_directory, with_file}
use Rattle.cs_trace.specs.Earlier.Entries.{Entries, node_of, size_of}
use Rattle.cs_trace.specs.Earlier.Judging.{and_then, free_at, is_too_much, resolve, unless_too_large}
use Rattle.cs_trace.specs.Earlier.Judging.{with_path}
use Rattle.cs_trace_lines.specs.Earlier.Lines.{Claims, Header, Line, Operation, Start, StartLine, StartLink}
use Rattle.cs_trace_lines.specs.Earlier.Lines.{UnknownOperation, UnknownStart, is_blank, line_in}
use Rattle.cs_trace.specs.Earlier.Names.{are_user_names, entry_path_of, new_path_of, rights_of}
use Rattle.cs_trace.specs.Earlier.Operations.{Paths, made_by, paths_after, sizes_after}
use Rattle.cs_trace.specs.Earlier.StartEntry.{StartEntry}
use Rattle.cs_trace.specs.declared.fault.TraceFault.{TraceFault}
use Rattle.cs_trace.specs.declared.fault.TraceFaultKind.{TraceFaultKind}
use Rattle.cs_trace.specs.declared.fault.TraceFaultKind.TheVariants.{Syntax, UnknownOp, BadName}
use Rattle.cs_trace.specs.declared.fault.TraceFaultKind.TheVariants.{Missing, NotFile}
use Rattle.cs_trace.specs.Earlier.Operation.{Operation as Resolved}
use Rattle.cs_trace_lines.specs.Earlier.Version.{Version}
use Rattle.cs_trace_lines.specs.Earlier.Version.{First}

-- the state after the lines so far: the version; the entries at the start, the path that each of
-- its files was made at, by their numbers, and the further paths of them with the file's number;
-- what is at each path now, each file's size by its number, how many records were ever made, and
-- owner, group and permissions of files and directories, if the version needs them; the operations
pub record State : Type 0 where
  pub version : Version
  pub start : Entries
  pub files : List Path
  pub links : List (Path × ℕ)
  pub paths : Paths
  pub sizes : List ℕ
  pub made : ℕ
  pub attributes : Attributes
  pub operations : List Resolved

abbrev pub empty_state : State
empty_state = record {
  version = First;
  start = empty;
  files = [];
  links = [];
  paths = empty;
  sizes = [];
  made = 0;
  attributes = no_attributes;
  operations = [];
}

-- ---- one line more

-- a directory, or a file with its bytes, at the start
abbrev pub with_entry : State → Path → StartEntry → Option (List ℕ) → State
with_entry s p e None = record s {
  start = insert s.start p e;
  paths = insert s.paths p (node_of e);
  made = s.made + 1;
  attributes = kept_in s.version s.attributes (with_directory s.attributes p e.rights);
}
with_entry s p e (Some bytes) = record s {
  start = insert s.start p e;
  files = s.files ++ p ∷ [];
  paths = insert s.paths p (node_of e);
  sizes = s.sizes ++ length bytes ∷ [];
  made = s.made + 1;
  attributes = kept_in s.version s.attributes (with_file s.attributes e.rights);
}

-- a file takes the next number; a directory has none
abbrev pub number_for : State → Option (List ℕ) → ℕ
number_for s None = 0
number_for s (Some bytes) = length s.sizes

abbrev pub entry_for : State → Claims → Option (List ℕ) → StartEntry
entry_for s claims content =
    record {
      number = number_for s content;
      own = is_some content;
      rights = rights_of claims;
      content = content;
    }

abbrev pub with_start : State → Path → Claims → Option (List ℕ) → State
with_start s p claims content = with_entry s p (entry_for s claims content) content

-- one path more, p, for a file at the start: a record of its own, with what the file has
abbrev pub with_link : State → Path → StartEntry → State
with_link s p e = record s {
  start = insert s.start p e;
  links = s.links ++ (p, e.number) ∷ [];
  paths = insert s.paths p (node_of e);
  made = s.made + 1;
}

-- a trace of this version, with only the root
abbrev pub after_header : State → Version → Claims → State
after_header s version claims = with_start (record s { version = version }) [] claims None

-- the first line is the header, which sets the version and adds the root
abbrev pub first_step : State → Line → Result State TraceFaultKind
first_step s (Header version claims) =
    if are_user_names claims then Ok (after_header s version claims) else Err BadName
first_step s _ = Err Syntax

-- a file or a directory at the start, if its names are legal
abbrev pub start_at : State → Path → Claims → Option (List ℕ) → Result State TraceFaultKind
start_at s p claims content =
    and_then (free_at s.paths p) (λ _.
    unless_too_large (is_too_much s.made p || nat_lt FILE_BYTES (size_of content))
    (with_start s p claims content))

abbrev pub start_step : State → StartLine → Result State TraceFaultKind
start_step s line =
    with_path (new_path_of line.path line.claims) (λ p. start_at s p line.claims line.content)

-- the file at a path of the start
abbrev pub start_file_by : StartEntry → Option (List ℕ) → Result StartEntry TraceFaultKind
start_file_by e None = Err NotFile
start_file_by e (Some bytes) = Ok e

abbrev pub start_file_at : Option StartEntry → Result StartEntry TraceFaultKind
start_file_at None = Err Missing
start_file_at (Some e) = start_file_by e e.content

-- one path more, q, for the file at p of the start
abbrev pub start_link_at : State → Path → Path → Result State TraceFaultKind
start_link_at s p q =
    and_then (start_file_at (get s.start p)) (λ e.
    and_then (free_at s.paths q) (λ _.
    unless_too_large (is_too_much s.made q) (with_link s q (record e { own = false }))))

abbrev pub start_link_step : State → List ℕ → List ℕ → Result State TraceFaultKind
start_link_step s path from =
    with_path (entry_path_of path) (λ q. with_path (entry_path_of from) (λ p. start_link_at s p q))

abbrev pub after_operation : State → Resolved → State
after_operation s o = record s {
  paths = paths_after s.paths o;
  sizes = sizes_after s.sizes o;
  made = s.made + made_by o;
  attributes = kept_in s.version s.attributes (attributes_after s.attributes o);
  operations = s.operations ++ o ∷ [];
}

-- the others are start lines, and then operations
abbrev pub later_step : State → Line → Result State TraceFaultKind
later_step s (Header version claims) = Err Syntax
later_step s (Start line) = if length s.operations == 0 then start_step s line else Err Syntax
later_step s (StartLink path from) =
    if length s.operations == 0 then start_link_step s path from else Err Syntax
later_step s UnknownStart = if length s.operations == 0 then Err UnknownOp else Err Syntax
later_step s (Operation line) =
    and_then (resolve s.paths s.sizes s.made s.attributes line) (λ o. Ok (after_operation s o))
later_step s UnknownOperation = Err UnknownOp

abbrev pub line_step : State → Line → Result State TraceFaultKind
line_step s line = if s.made == 0 then first_step s line else later_step s line

-- the state after a line, which may be blank; the header is read alike in every version
abbrev pub step : State → List ℕ → Result State TraceFaultKind
step s text =
    if is_blank text then Ok s
    else option_map_or (line_step s) (line_in s.version text) (Err Syntax)

-- ---- all lines

-- a fault with the number of its line
abbrev pub at_line : ℕ → Result State TraceFaultKind → Result State TraceFault
at_line number (Ok s) = Ok s
at_line number (Err kind) = Err (record { line = number; kind = kind })

-- the state after these lines, the first of which has that number; or the first fault
abbrev pub state_from : State → ℕ → List (List ℕ) → Result State TraceFault
state_from s number [] = Ok s
state_from s number (text ∷ lines) =
    and_then (at_line number (step s text)) (λ next. state_from next (number + 1) lines)

-- the state after a trace's lines
abbrev pub state_in : List (List ℕ) → Result State TraceFault
state_in lines = state_from empty_state 1 lines

-- the lines of a text, cut at the line feeds
abbrev pub lines_in : List ℕ → List (List ℕ)
lines_in text = slice_split (λ c. c == 10) text
