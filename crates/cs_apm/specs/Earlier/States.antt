-- The state of a set of micro-operations by paths, as before version 4.
use Rattle.std.specs.Prelude.{ℕ, ◌+◌, ◌-◌, ◌%◌, nat_lt, if◌then◌else◌, List, [], ◌∷◌, ◌++◌, Option}
use Rattle.std.specs.Prelude.{None, Some, unwrap_or, length, take, drop, replicate, fold, map}
use Rattle.std.specs.Prelude.{slice_set, slice_index_or, refl}
use Rattle.std.specs.Coded.{Coded, code_by, coded×, coded_ℕ, coded_list}
use Rattle.std.specs.FinMap.{FinMap, from_entries, get, insert, remove}
use Rattle.std.specs.List.{zip}
use Rattle.std.specs.Option.{option_map_or}
use Rattle.cs_tree_model.specs.declared.mode.TheConstants.{DMDIR}
use Rattle.cs_tree_model.specs.declared.record.MetadataBuf.{MetadataBuf}
use Rattle.cs_tree_model.specs.declared.record.Record.{Record}
use Rattle.cs_tree_model.specs.Fresh.{fresh}
use Rattle.cs_tree_model.specs.Maps.Values.{map_values}
use Rattle.cs_tree_model.specs.Tree.{Path, path_cmp, Tree}
use Rattle.cs_trace.specs.Earlier.Node.{Node}
use Rattle.cs_trace.specs.Earlier.Node as nodes
use Rattle.cs_start.specs.declared.rights.Rights.{Rights}
use Rattle.cs_trace.specs.Earlier.Target as targets
use Rattle.cs_trace.specs.Earlier.Traces.{Trace, record_in}
use Rattle.cs_micro.specs.Earlier.MicroOp.{MicroOp}
use Rattle.cs_micro.specs.Earlier.MicroOp.{CreateDirEntry, DeleteDirEntry}
use Rattle.cs_micro.specs.Earlier.MicroOp.{MoveDirEntry, LinkDirEntry}
use Rattle.cs_micro.specs.Earlier.MicroOp.{ChangeFileSize, WriteBlock}
use Rattle.cs_micro.specs.Earlier.MicroOp.{SetAttr}
use Rattle.cs_micro.specs.Earlier.Micros.{Micros}
use Rattle.cs_apm.specs.Earlier.Rules.{op_at}

-- what is at a path: a directory with its owner, group and permissions, or a file by its number
pub data Entry : Type 0 where
  Directory : Rights → Entry
  File : ℕ → Entry

abbrev pub Entries : Type 0
Entries = FinMap path_cmp Entry

-- a file by its number: its size, and its bytes from the first on; those past the size are hidden
pub record Content : Type 0 where
  pub size : ℕ
  pub bytes : List ℕ

-- a content is stored as the pair of its fields
abbrev pub content_code : Coded Content
content_code =
    code_by (ℕ × List ℕ) (coded× coded_ℕ (coded_list coded_ℕ)) (λ c. (c.size, c.bytes))
    (λ p. record { size = p.0; bytes = p.1 }) (λ _. refl)

-- what is at each path, and of the files by their numbers what is in them, and owner, group and
-- permissions
pub record State : Type 0 where
  pub paths : Entries
  pub files : List Content
  pub owners : List Rights

-- ---- one operation

-- what is at p moves to q
abbrev pub with_entry_moved : {X : Type 0} → Path → Path → FinMap path_cmp X → FinMap path_cmp X
with_entry_moved p q m = option_map_or (λ e. insert (remove m p) q e) (get m p) m

-- the entry that is made
abbrev pub entry_made : Node → Rights → Entry
entry_made nodes.Directory rights = Directory rights
entry_made (nodes.File file) rights = File file

-- what is at the path has these rights, if it is a directory
abbrev pub with_rights_at : Entries → Path → Rights → Option Entry → Entries
with_rights_at m path rights (Some (Directory old)) = insert m path (Directory rights)
with_rights_at m path rights _ = m

abbrev pub entries_after : Entries → MicroOp → Entries
entries_after m (CreateDirEntry p node rights) = insert m p (entry_made node rights)
entries_after m (DeleteDirEntry p kind) = remove m p
entries_after m (MoveDirEntry p q) = with_entry_moved p q m
entries_after m (LinkDirEntry p file) = insert m p (File file)
entries_after m (SetAttr (targets.Directory p) rights) = with_rights_at m p rights (get m p)
entries_after m _ = m

-- a size that shrinks drops every byte past it, hidden ones too
abbrev pub content_with_size : ℕ → Content → Content
content_with_size size f =
    record f { size = size; bytes = (if nat_lt size f.size then take size f.bytes else f.bytes) }

-- zeros up to an end, if the bytes end before it
abbrev pub padded : ℕ → List ℕ → List ℕ
padded end old = old ++ replicate (end - length old) 0

-- others over the bytes from an offset on
abbrev pub bytes_over : ℕ → List ℕ → List ℕ → List ℕ
bytes_over at new old = take at old ++ (new ++ drop (at + length new) old)

-- others placed at an offset, whatever the size; bytes that nothing wrote are zero
abbrev pub padded_bytes_over : ℕ → List ℕ → List ℕ → List ℕ
padded_bytes_over at new old = bytes_over at new (padded (at + length new) old)

abbrev pub overwritten : ℕ → List ℕ → Content → Content
overwritten at new content = record content { bytes = padded_bytes_over at new content.bytes }

-- a file without a byte
abbrev pub no_content : Content
no_content = record { size = 0; bytes = [] }

abbrev pub with_file : ℕ → (Content → Content) → List Content → List Content
with_file file change files = slice_set files file (change (slice_index_or files file no_content))

abbrev pub files_after : List Content → MicroOp → List Content
files_after files (ChangeFileSize file size) = with_file file (content_with_size size) files
files_after files (WriteBlock file block start at bytes) =
    with_file file (overwritten (start + at) bytes) files
files_after files _ = files

abbrev pub owners_after : List Rights → MicroOp → List Rights
owners_after owners (SetAttr (targets.File file) rights) = slice_set owners file rights
owners_after owners _ = owners

abbrev pub state_after : State → MicroOp → State
state_after state op = record {
  paths = entries_after state.paths op;
  files = files_after state.files op;
  owners = owners_after state.owners op;
}

-- ---- the state of a set

-- the owner, group and permissions of each file that an operation makes
abbrev pub owners_made : List MicroOp → List Rights
owners_made [] = []
owners_made (CreateDirEntry p (nodes.File file) rights ∷ ops) = rights ∷ owners_made ops
owners_made (_ ∷ ops) = owners_made ops

-- each of these files without a byte
abbrev pub empty_files : List MicroOp → List Content
empty_files ops = map (λ _. no_content) (owners_made ops)

-- all files as they are made, those of the start first; no set is without its number
abbrev pub with_created : State → List MicroOp → State
with_created start ops =
    record start {
      files = start.files ++ empty_files ops;
      owners =
          start.owners ++ owners_made ops;
    }

-- the members of the set in the trace's order
unfoldable pub state_of : State → List MicroOp → List ℕ → State
state_of start ops places = fold state_after (with_created start ops) (map (op_at ops) places)

-- ---- the start

-- the nine bits of the permissions
abbrev pub permission_bits : ℕ → ℕ
permission_bits mode = mode % 512

abbrev pub rights_of : Record → Rights
rights_of r = record { owner = r.owner; group = r.group; permissions = permission_bits r.mode }

-- the same of the fields
abbrev pub rights_in : MetadataBuf → Rights
rights_in m = record { owner = m.owner; group = m.group; permissions = permission_bits m.mode }

abbrev pub start_entry : Node → Record → Entry
start_entry node r = entry_made node (rights_of r)

-- what is at each path at the start
abbrev pub start_entries : List (Path × Record) → List Node → Entries
start_entries records nodes =
    from_entries (map (λ x. (x.0.0, start_entry x.1 x.0.1)) (zip records nodes))

abbrev pub no_rights : Rights
no_rights = record { owner = []; group = []; permissions = 0 }

abbrev pub bytes_of : Record → List ℕ
bytes_of r = unwrap_or r.content []

abbrev pub content_of : Record → Content
content_of r = record { size = length (bytes_of r); bytes = bytes_of r }

-- the content of the file at a path of the start, and its owner, group and permissions
abbrev pub content_at : List (Path × Record) → Path → Content
content_at records path = option_map_or content_of (record_in records path) no_content

abbrev pub owner_at : List (Path × Record) → Path → Rights
owner_at records path = option_map_or rights_of (record_in records path) no_rights

-- owner, group and permissions of each file by its number as it is made: those of the start, and
-- those that are made
abbrev pub owners_of : Trace → List MicroOp → List Rights
owners_of trace ops = map (owner_at trace.records) trace.files ++ owners_made ops

abbrev pub start_state : Trace → State
start_state trace = record {
  paths = start_entries trace.records trace.nodes;
  files = map (content_at trace.records) trace.files;
  owners = map (owner_at trace.records) trace.files;
}

-- ---- read as a tree

-- the bytes up to the size
abbrev pub visible : Content → List ℕ
visible content = take content.size (content.bytes ++ replicate content.size 0)

abbrev pub record_with : Rights → ℕ → Option (List ℕ) → Record
record_with rights bit content = record {
  number = 0;
  vers = 0;
  owner = rights.owner;
  group = rights.group;
  mode = bit + permission_bits rights.permissions;
  atime = 0;
  mtime = 0;
  muid = rights.owner;
  content = content;
}

abbrev pub record_of : List Rights → List Content → Entry → Record
record_of owners files (Directory rights) = record_with rights DMDIR None
record_of owners files (File file) =
    record_with (slice_index_or owners file no_rights) 0
    (Some (visible (slice_index_or files file no_content)))

abbrev pub records_of : State → FinMap path_cmp Record
records_of s = map_values (record_of s.owners s.files) s.paths

-- with fresh numbers, in the order of paths
abbrev pub tree_of_state : State → Tree
tree_of_state state = fresh (records_of state)

-- the tree that a crash leaves of a trace, of which the set reached the disk
abbrev pub crash_state_of : Trace → Micros → List ℕ → Tree
crash_state_of trace micros places = tree_of_state (state_of (start_state trace) micros.ops places)
