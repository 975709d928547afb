-- The state of a set of micro-operations: plain maps, and the tree that they are read as.
use Rattle.std.specs.Prelude.{ℕ, ◌+◌, ◌-◌, ◌%◌, ◌==◌, nat_lt, if◌then◌else◌, Bool, true, false, List}
use Rattle.std.specs.Prelude.{[], ◌∷◌, ◌++◌, Option, None, Some, unwrap_or, length, take, drop}
use Rattle.std.specs.Prelude.{replicate, filter, fold, map, slice_set, slice_index_or, refl}
use Rattle.std.specs.Coded.{Coded, code_by, coded×, coded_ℕ, coded_list}
use Rattle.std.specs.FinMap.{FinMap}
use Rattle.std.specs.List.{position_from, range_with_len}
use Rattle.std.specs.Option.{option_map_or}
use Rattle.cs_entries.specs.declared.node.FileKind.{FileKind}
use Rattle.cs_entries.specs.declared.node.FileKind.TheVariants.{Regular, Symlink}
use Rattle.cs_entries.specs.declared.node.Node.{Node}
use Rattle.cs_entries.specs.declared.node.Node.TheVariants.{Directory, File}
use Rattle.cs_entries.specs.Tables.{Table, paths_in, table_after}
use Rattle.cs_tree_model.specs.declared.mode.TheConstants.{DMDIR, DMSYMLINK}
use Rattle.cs_tree_model.specs.declared.record.MetadataBuf.{MetadataBuf}
use Rattle.cs_tree_model.specs.declared.record.Record.{Record}
use Rattle.cs_tree_model.specs.Fresh.{fresh}
use Rattle.cs_tree_model.specs.Maps.Values.{map_values}
use Rattle.cs_tree_model.specs.Tree.{Path, path_cmp, Tree}
use Rattle.cs_start.specs.declared.rights.Rights.{Rights}
use Rattle.cs_trace.specs.declared.operation.Target.TheVariants as targets
use Rattle.cs_trace.specs.Traces.{Trace, directory_count, record_in, start_table}
use Rattle.cs_micro.specs.declared.micro_op.MicroOp.{MicroOp}
use Rattle.cs_micro.specs.declared.micro_op.MicroOp.TheVariants.{CreateDirEntry, ChangeFileSize}
use Rattle.cs_micro.specs.declared.micro_op.MicroOp.TheVariants.{WriteBlock, SetAttr}
use Rattle.cs_micro.specs.Legal.{entry_op}
use Rattle.cs_micro.specs.Micros.{Micros}
use Rattle.cs_apm.specs.Rules.{is_directory_numbered, op_at}

-- a file by its number: its size, and its bytes from the first on; those past the size are hidden
pub record Content : Type 0 where
  pub size : ℕ
  pub bytes : List ℕ

-- a content is stored as the pair of its fields
abbrev pub content_code : Coded Content
content_code =
    code_by (ℕ × List ℕ) (coded× coded_ℕ (coded_list coded_ℕ)) (λ c. (c.size, c.bytes))
    (λ p. record { size = p.0; bytes = p.1 }) (λ _. refl)

-- what each entry holds; of the files and symbolic links by their numbers what is in them, and
-- owner, group and permissions; and these of the directories by their numbers
pub record State : Type 0 where
  pub entries : Table
  pub files : List Content
  pub owners : List Rights
  pub directories : List Rights

-- ---- one operation

abbrev pub entries_after : Table → MicroOp → Table
entries_after t op = table_after t (entry_op op)

-- a size that shrinks drops every byte past it, hidden ones too
abbrev pub content_with_size : ℕ → Content → Content
content_with_size size f =
    record f { size = size; bytes = (if nat_lt size f.size then take size f.bytes else f.bytes) }

-- zeros up to an end, if the bytes end before it
abbrev pub padded : ℕ → List ℕ → List ℕ
padded end old = old ++ replicate (end - length old) 0

-- the bytes `new` over `old` from an offset on
abbrev pub bytes_over : ℕ → List ℕ → List ℕ → List ℕ
bytes_over at new old = take at old ++ (new ++ drop (at + length new) old)

-- the bytes `new` at an offset, whatever the size; bytes that nothing wrote are zero
abbrev pub padded_bytes_over : ℕ → List ℕ → List ℕ → List ℕ
padded_bytes_over at new old = bytes_over at new (padded (at + length new) old)

abbrev pub overwritten : ℕ → List ℕ → Content → Content
overwritten at new content = record content { bytes = padded_bytes_over at new content.bytes }

-- a file without a byte
abbrev pub no_content : Content
no_content = record { size = 0; bytes = [] }

abbrev pub with_file : ℕ → (Content → Content) → List Content → List Content
with_file file change files = slice_set files file (change (slice_index_or files file no_content))

abbrev pub files_after : List Content → MicroOp → List Content
files_after files (ChangeFileSize file size) = with_file file (content_with_size size) files
files_after files (WriteBlock file block start at bytes) =
    with_file file (overwritten (start + at) bytes) files
files_after files _ = files

abbrev pub owners_after : List Rights → MicroOp → List Rights
owners_after owners (SetAttr (targets.File file) rights) = slice_set owners file rights
owners_after owners _ = owners

-- a directory has the rights that it is made with, and then those that are set
abbrev pub directories_after : List Rights → MicroOp → List Rights
directories_after all (CreateDirEntry e (Directory d) rights bytes) = slice_set all d rights
directories_after all (SetAttr (targets.Directory d path) rights) = slice_set all d rights
directories_after all _ = all

abbrev pub state_after : State → MicroOp → State
state_after state op = record {
  entries = entries_after state.entries op;
  files = files_after state.files op;
  owners = owners_after state.owners op;
  directories = directories_after state.directories op;
}

-- ---- the state of a set

abbrev pub content_of_bytes : List ℕ → Content
content_of_bytes bytes = record { size = length bytes; bytes = bytes }

-- the owner, group and permissions of each file and symbolic link that an operation makes
abbrev pub owners_made : List MicroOp → List Rights
owners_made [] = []
owners_made (CreateDirEntry e (File kind file) rights bytes ∷ ops) = rights ∷ owners_made ops
owners_made (_ ∷ ops) = owners_made ops

-- the bytes that each is made with: a file has none, a symbolic link its target
abbrev pub files_made : List MicroOp → List Content
files_made [] = []
files_made (CreateDirEntry e (File kind file) rights bytes ∷ ops) =
    content_of_bytes bytes ∷ files_made ops
files_made (_ ∷ ops) = files_made ops

abbrev pub no_rights : Rights
no_rights = record { owner = []; group = []; permissions = 0 }

-- one for each making of a directory; in a set that has the making, the directory of the number has
-- the rights that it is made with
abbrev pub directories_made : List MicroOp → List Rights
directories_made [] = []
directories_made (CreateDirEntry e (Directory d) rights bytes ∷ ops) =
    rights ∷ directories_made ops
directories_made (_ ∷ ops) = directories_made ops

-- the start with all files, symbolic links and directories that the operations make, as they are
-- made; so each has its number in every set, also in one that doesn't make it
abbrev pub with_created : State → List MicroOp → State
with_created start ops =
    record start {
      files = start.files ++ files_made ops;
      owners = start.owners ++ owners_made ops;
      directories = start.directories ++ directories_made ops;
    }

-- the state after the members of the set, in the trace's order
unfoldable pub state_of : State → List MicroOp → List ℕ → State
state_of start ops places = fold state_after (with_created start ops) (map (op_at ops) places)

-- ---- the start

-- the nine bits of the permissions
abbrev pub permission_bits : ℕ → ℕ
permission_bits mode = mode % 512

abbrev pub rights_of : Record → Rights
rights_of r = record { owner = r.owner; group = r.group; permissions = permission_bits r.mode }

-- owner, group and permissions in these fields of a record
abbrev pub rights_in : MetadataBuf → Rights
rights_in m = record { owner = m.owner; group = m.group; permissions = permission_bits m.mode }

abbrev pub bytes_of : Record → List ℕ
bytes_of r = unwrap_or r.content []

abbrev pub content_of : Record → Content
content_of r = content_of_bytes (bytes_of r)

-- the content of the file at a path of the start, and its owner, group and permissions
abbrev pub content_at : List (Path × Record) → Path → Content
content_at records path = option_map_or content_of (record_in records path) no_content

abbrev pub owner_at : List (Path × Record) → Path → Rights
owner_at records path = option_map_or rights_of (record_in records path) no_rights

-- owner, group and permissions of each file by its number as it is made: those of the start, and
-- those that are made
abbrev pub owners_of : Trace → List MicroOp → List Rights
owners_of trace ops = map (owner_at trace.records) trace.files ++ owners_made ops

-- a record that no place has
abbrev pub no_record : Path × Record
no_record = (
  [],
  record {
    number = 0;
    vers = 0;
    owner = [];
    group = [];
    mode = 0;
    atime = 0;
    mtime = 0;
    muid = [];
    content = None;
  },
)

-- the place of the directory of the number among the start's records; the root's, if there is none
abbrev pub directory_place : List Node → ℕ → ℕ
directory_place nodes n = unwrap_or (position_from (is_directory_numbered n) 0 nodes) 0

-- its owner, group and permissions at the start
abbrev pub directory_owner : Trace → ℕ → Rights
directory_owner trace n =
    rights_of (slice_index_or trace.records (directory_place trace.nodes n) no_record).1

-- owner, group and permissions of each directory of the start by its number, and then of each
-- making of a directory; in versions 1 to 3 a making may be of a directory with an earlier number
abbrev pub directories_of : Trace → List MicroOp → List Rights
directories_of trace ops =
    map (directory_owner trace) (range_with_len 0 (directory_count trace.nodes))
    ++ directories_made ops

abbrev pub start_state : Trace → State
start_state trace = record {
  entries = start_table trace;
  files = map (content_at trace.records) trace.files;
  owners = map (owner_at trace.records) trace.files;
  directories = map (directory_owner trace) (range_with_len 0 (directory_count trace.nodes));
}

-- ---- read as a tree

-- the bytes up to the size
abbrev pub visible : Content → List ℕ
visible content = take content.size (content.bytes ++ replicate content.size 0)

abbrev pub record_with : Rights → ℕ → Option (List ℕ) → Record
record_with rights bit content = record {
  number = 0;
  vers = 0;
  owner = rights.owner;
  group = rights.group;
  mode = bit + permission_bits rights.permissions;
  atime = 0;
  mtime = 0;
  muid = rights.owner;
  content = content;
}

-- the bytes of the file or symbolic link of a number
abbrev pub bytes_left : List Content → ℕ → Option (List ℕ)
bytes_left files file = Some (visible (slice_index_or files file no_content))

-- the bit that a file of this kind has in its mode
abbrev pub kind_bit : FileKind → ℕ
kind_bit Regular = 0
kind_bit Symlink = DMSYMLINK

abbrev pub record_of : State → Node → Record
record_of s (Directory d) = record_with (slice_index_or s.directories d no_rights) DMDIR None
record_of s (File kind file) =
    record_with (slice_index_or s.owners file no_rights) (kind_bit kind) (bytes_left s.files file)

-- what is at each path: what is reached from the root, as many names down as there are directories,
-- and one more
abbrev pub nodes_left : State → FinMap path_cmp Node
nodes_left s = paths_in (length s.directories + 1) s.entries

abbrev pub records_of : State → FinMap path_cmp Record
records_of s = map_values (record_of s) (nodes_left s)

-- with fresh numbers, in the order of paths
abbrev pub tree_of_state : State → Tree
tree_of_state state = fresh (records_of state)

-- the tree that a crash leaves of a trace if exactly this set is on the disk
abbrev pub crash_state_of : Trace → Micros → List ℕ → Tree
crash_state_of trace micros places = tree_of_state (state_of (start_state trace) micros.ops places)
