-- Each line's checks, in their order: the first that it fails is its fault.
use Rattle.std.specs.Prelude.{◌≡◌, ◌⊎◌, ℕ, ◌-◌, ◌<◌, ◌≤◌, ◌==◌, ◌||◌, ◌&&◌, not, Bool, true, false}
use Rattle.std.specs.Prelude.{List, [], ◌∷◌, ◌++◌, length, nat_lt, nat_le, take, Option, Some, None}
use Rattle.std.specs.Prelude.{is_none, is_some, slice_index_or, unwrap_or, if◌then◌else◌, Ok}
use Rattle.std.specs.FinMap.{get}
use Rattle.std.specs.Option.{option_map}
use Rattle.cs_entries.specs.declared.node.FileKind.TheVariants.{Regular, Symlink}
use Rattle.cs_entries.specs.declared.node.Node.{Node}
use Rattle.cs_entries.specs.declared.node.Node.TheVariants.{Directory, File}
use Rattle.cs_entries.specs.Tables.{has_entries}
use Rattle.cs_names.specs.Paths.{path_eq}
use Rattle.cs_names.specs.declared.limits.TheConstants.{SAY_BYTES, TREE_RECORDS}
use Rattle.cs_tree_model.specs.Tree.{Path, parent_path}
use Rattle.cs_start.specs.Below.{is_below}
use Rattle.cs_start.specs.Entries.{size_of}
use Rattle.cs_trace.specs.Judging.{directory_number, ends_above, has_too_many_names}
use Rattle.cs_trace.specs.Judging.{held_by, is_path_of, is_too_much, may_set, node_at}
use Rattle.cs_trace.specs.Limits.{most_bytes}
use Rattle.cs_trace_lines.specs.Lines as line
use Rattle.cs_trace_lines.specs.Lines.{Change, Line, OperationLine, StartContent, line_in}
use Rattle.cs_trace_lines.specs.Values.{is_blank}
use Rattle.cs_trace_lines.specs.Versions.{is_fourth}
use Rattle.cs_start.specs.Names.{entry_path_of, path_of}
use Rattle.cs_trace.specs.Names.{are_user_names, new_path_of, set_path_of}
use Rattle.cs_trace.specs.State.{State}
use Rattle.cs_trace.specs.States.{bytes_of, state_in}
use Rattle.cs_start.specs.declared.entry.StartEntry.{StartEntry}
use Rattle.cs_trace.specs.declared.fault.TraceFault.{TraceFault}
use Rattle.cs_trace.specs.declared.fault.TraceFaultKind.{TraceFaultKind}
use Rattle.cs_trace.specs.declared.fault.TraceFaultKind.TheVariants.{Syntax, UnknownOp, BadName}
use Rattle.cs_trace.specs.declared.fault.TraceFaultKind.TheVariants.{NoParent, NotDir, Exists}
use Rattle.cs_trace.specs.declared.fault.TraceFaultKind.TheVariants.{Missing, NotFile, NotEmpty}
use Rattle.cs_trace.specs.declared.fault.TraceFaultKind.TheVariants.{TooLarge}

-- whether a line fails, and the fault that it then has
abbrev pub Check : Type 0
Check = Bool × TraceFaultKind

-- the fault of the first check that fails
abbrev pub first_fault : List Check → Option TraceFaultKind
first_fault [] = None
first_fault (c ∷ cs) = if c.0 then Some c.1 else first_fault cs

-- ---- what is at a path

-- a file or a symbolic link
abbrev pub is_leaf : Option Node → Bool
is_leaf None = false
is_leaf (Some (Directory d)) = false
is_leaf (Some (File kind file)) = true

abbrev pub is_symlink : Option Node → Bool
is_symlink (Some (File Symlink file)) = true
is_symlink _ = false

abbrev pub is_directory : Option Node → Bool
is_directory None = false
is_directory (Some (Directory d)) = true
is_directory (Some (File kind file)) = false

-- what a path needs of the directory above it
abbrev pub above_checks : Option Node → List Check
above_checks above = (is_none above, NoParent) ∷ (is_leaf above, NotDir) ∷ []

-- what a new entry needs of the directory above it and of its path
abbrev pub new_checks : Option Node → Option Node → List Check
new_checks above here = above_checks above ++ (is_some here, Exists) ∷ []

-- what needs a file that is no symbolic link
abbrev pub file_checks : Option Node → List Check
file_checks here = (is_none here, Missing) ∷ (is_directory here || is_symlink here, NotFile) ∷ []

-- what needs a file or a symbolic link
abbrev pub leaf_checks : Option Node → List Check
leaf_checks here = (is_none here, Missing) ∷ (is_directory here, NotFile) ∷ []

-- the directory here has an entry
abbrev pub is_filled : State → Option Node → Bool
is_filled s here = is_directory here && has_entries s.system.entries (directory_number here)

-- what needs a directory that is empty
abbrev pub emptied_checks : State → Option Node → List Check
emptied_checks s here =
    (is_none here, Missing) ∷ (is_leaf here, NotDir) ∷ (is_filled s here, NotEmpty) ∷ []

-- ---- operations

abbrev pub limit : Bool → List Check
limit large = (large, TooLarge) ∷ []

-- first whether the names are legal, and then what the path needs
abbrev pub on_path : Option Path → (Path → List Check) → List Check
on_path path checks = (is_none path, BadName) ∷ checks (unwrap_or path [])

abbrev pub made_checks : State → Path → List Check
made_checks s p =
    new_checks (node_at s (parent_path p)) (node_at s p) ++ limit (is_too_much s.made p)

-- one more path, q, for the file at p; `here` is what is at p
abbrev pub linked_checks : State → Path → Option Node → Path → List Check
linked_checks s p here q =
    file_checks here
    ++ (new_checks (node_at s (parent_path q)) (node_at s q)
    ++ limit (has_too_many_names p || is_too_much s.made q))

-- the two directories have different numbers
abbrev pub are_apart : Option Node → Option Node → Bool
are_apart above beside = not (directory_number above == directory_number beside)

-- a rename into another directory makes a record in the fourth version, unless it does nothing
abbrev pub is_too_much_to_move : State → Bool → Path → Path → Bool
is_too_much_to_move s nothing p q =
    is_fourth s.version && not nothing
    && are_apart (node_at s (parent_path p)) (node_at s (parent_path q))
    && nat_le TREE_RECORDS s.made

abbrev pub move_limit : State → Bool → Path → Path → List Check
move_limit s nothing p q =
    limit (has_too_many_names p || has_too_many_names q || is_too_much_to_move s nothing p q)

-- a file is moved onto nothing, a file or a symbolic link
abbrev pub moved_file_checks : State → ℕ → Path → Path → List Check
moved_file_checks s file p q =
    above_checks (node_at s (parent_path q))
    ++ ((is_directory (node_at s q), NotFile) ∷ move_limit s (is_path_of file (node_at s q)) p q)

-- a directory is moved onto nothing or an empty directory, and not below itself; to itself it is
-- moved whatever is in it
abbrev pub moved_directory_checks : State → Path → Path → List Check
moved_directory_checks s p q =
    above_checks (node_at s (parent_path q))
    ++ ((is_below p q, BadName) ∷ (is_leaf (node_at s q), NotDir)
    ∷ (not (path_eq p q) && is_filled s (node_at s q), NotEmpty) ∷ move_limit s (path_eq p q) p q)

abbrev pub moved_checks_by : State → Path → Path → Option Node → List Check
moved_checks_by s p q None = (true, Missing) ∷ []
moved_checks_by s p q (Some (File kind file)) = moved_file_checks s file p q
moved_checks_by s p q (Some (Directory d)) =
    if is_fourth s.version then moved_directory_checks s p q else (true, NotFile) ∷ []

abbrev pub moved_checks : State → Path → Path → List Check
moved_checks s p q = moved_checks_by s p q (node_at s p)

abbrev pub written_checks : State → Bool → Path → List Check
written_checks s large p = file_checks (node_at s p) ++ limit (has_too_many_names p || large)

-- a mode isn't set of a symbolic link; what has no rights that are known is missing
abbrev pub set_checks_of : State → Path → Change → Node → List Check
set_checks_of s p change node =
    (not (may_set change node), NotFile) ∷ (is_none (held_by s.attributes p node), Missing)
    ∷ limit (has_too_many_names p)

abbrev pub set_checks_by : State → Path → Change → Option Node → List Check
set_checks_by s p change None = (true, Missing) ∷ []
set_checks_by s p change (Some node) = set_checks_of s p change node

abbrev pub synced_checks : State → Path → List Check
synced_checks s p =
    (is_none (node_at s p), Missing) ∷ (is_symlink (node_at s p), NotFile)
    ∷ limit (has_too_many_names p)

abbrev pub operation_checks : State → OperationLine → List Check
operation_checks s (line.Creat text claims) = on_path (new_path_of text claims) (made_checks s)
operation_checks s (line.Mkdir text claims) = on_path (new_path_of text claims) (made_checks s)
operation_checks s (line.Symlink text claims target) =
    on_path (new_path_of text claims) (made_checks s)
operation_checks s (line.Link from to) =
    on_path (entry_path_of from) (λ p.
    on_path (entry_path_of to) (linked_checks s p (node_at s p)))
operation_checks s (line.Unlink text) =
    on_path (entry_path_of text) (λ p.
    leaf_checks (node_at s p) ++ limit (has_too_many_names p))
operation_checks s (line.Rmdir text) =
    on_path (entry_path_of text) (λ p.
    emptied_checks s (node_at s p) ++ limit (has_too_many_names p))
operation_checks s (line.Rename from to) =
    on_path (entry_path_of from) (λ p. on_path (entry_path_of to) (moved_checks s p))
operation_checks s (line.Write text offset bytes) =
    on_path (entry_path_of text) (written_checks s (ends_above s.version offset bytes))
operation_checks s (line.Truncate text size) =
    on_path (entry_path_of text) (written_checks s (nat_lt (most_bytes s.version) size))
operation_checks s (line.SetAttr text change) =
    on_path (set_path_of text change) (λ p. set_checks_by s p change (node_at s p))
operation_checks s (line.Fsync text) = on_path (path_of text) (synced_checks s)
operation_checks s (line.Fdatasync text) =
    on_path (entry_path_of text) (written_checks s false)
operation_checks s (line.FsyncRange text offset count) =
    on_path (entry_path_of text) (written_checks s false)
operation_checks s line.Sync = []
operation_checks s (line.Say text) = limit (nat_lt SAY_BYTES (length text))

-- ---- lines

-- the first line is a header
abbrev pub first_checks : Line → List Check
first_checks (line.Header version claims) = (not (are_user_names claims), BadName) ∷ []
first_checks _ = (true, Syntax) ∷ []

-- after an operation there is no start line
abbrev pub is_late : State → Bool
is_late s = not (length s.operations == 0)

abbrev pub start_checks : State → StartContent → Path → List Check
start_checks s content p =
    new_checks (node_at s (parent_path p)) (node_at s p)
    ++ limit (is_too_much s.made p || nat_lt (most_bytes s.version) (size_of (bytes_of content)))

abbrev pub later_checks : State → Line → List Check
later_checks s (line.Header version claims) = (true, Syntax) ∷ []
later_checks s (line.Start l) =
    (is_late s, Syntax) ∷ on_path (new_path_of l.path l.claims) (start_checks s l.content)
later_checks s (line.StartLink path from) =
    (is_late s, Syntax)
    ∷ on_path (entry_path_of path) (λ q. on_path (entry_path_of from) (λ p.
    linked_checks s p (option_map (λ (e : StartEntry). e.node) (get s.start p)) q))
later_checks s line.UnknownStart = (is_late s, Syntax) ∷ (true, UnknownOp) ∷ []
later_checks s (line.Operation l) = operation_checks s l
later_checks s line.UnknownOperation = (true, UnknownOp) ∷ []

abbrev pub line_checks : State → Option Line → List Check
line_checks s None = (true, Syntax) ∷ []
line_checks s (Some l) = if s.made == 0 then first_checks l else later_checks s l

-- a blank line fails none
abbrev pub text_checks : State → List ℕ → List Check
text_checks s text = if is_blank text then [] else line_checks s (line_in s.version text)

-- ---- the fault of a trace

-- the lines before the fault's line have no fault, and it is the first fault of its line
pub record IsFirstFault (lines : List (List ℕ)) (fault : TraceFault) : Type 0 where
  pub above : 0 < fault.line
  pub among : fault.line ≤ length lines
  pub state : State
  pub before : state_in (take (fault.line - 1) lines) ≡ Ok state
  pub first :
      first_fault (text_checks state (slice_index_or lines (fault.line - 1) [])) ≡ Some fault.kind

-- no line has a fault, and none is a header
pub record HasNoHeader (lines : List (List ℕ)) (fault : TraceFault) : Type 0 where
  pub state : State
  pub before : state_in lines ≡ Ok state
  pub none : state.made ≡ 0
  pub first : fault ≡ record { line = 1; kind = Syntax }

abbrev pub IsFaultOf : List (List ℕ) → TraceFault → Type 0
IsFaultOf lines fault = IsFirstFault lines fault ⊎ HasNoHeader lines fault
