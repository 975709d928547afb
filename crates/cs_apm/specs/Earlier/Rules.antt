-- Which micro-operation needs which, as before version 4.
use Rattle.std.specs.Prelude.{ℕ, ◌+◌, ◌-◌, ◌==◌, ◌&&◌, ◌||◌, not, nat_lt, nat_le, Bool, true, false}
use Rattle.std.specs.Prelude.{List, [], ◌∷◌, length, slice_index_or}
use Rattle.std.specs.List.{list_any, range_with_len}
use Rattle.cs_names.specs.Paths.{path_eq}
use Rattle.cs_tree_model.specs.Tree.{Path, parent_path}
use Rattle.cs_trace.specs.Earlier.Covers.{Covers}
use Rattle.cs_trace.specs.Earlier.Covers as covers
use Rattle.cs_trace.specs.Earlier.Node as nodes
use Rattle.cs_trace.specs.Earlier.Target as targets
use Rattle.cs_trace_lines.specs.Earlier.Version.{profile_of, says_first}
use Rattle.cs_trace_lines.specs.declared.profile.Profile.{Profile}
use Rattle.cs_trace_lines.specs.declared.profile.Profile.TheVariants as profiles
use Rattle.cs_trace_lines.specs.Earlier.Version.{Version}
use Rattle.cs_micro.specs.Earlier.EntryKind as kinds
use Rattle.cs_micro.specs.Earlier.MicroOp.{MicroOp}
use Rattle.cs_micro.specs.Earlier.MicroOp.{CreateDirEntry, DeleteDirEntry}
use Rattle.cs_micro.specs.Earlier.MicroOp.{MoveDirEntry, LinkDirEntry}
use Rattle.cs_micro.specs.Earlier.MicroOp.{ChangeFileSize, WriteBlock}
use Rattle.cs_micro.specs.Earlier.MicroOp.{SetAttr, Say}
use Rattle.cs_micro.specs.Earlier.SyncPoint.{SyncPoint}

-- the micro-operation at a place
abbrev pub op_at : List MicroOp → ℕ → MicroOp
op_at ops place = slice_index_or ops place Say

-- the paths that it touches
abbrev pub paths_touched : MicroOp → List Path
paths_touched (CreateDirEntry p node rights) = p ∷ []
paths_touched (DeleteDirEntry p kind) = p ∷ []
paths_touched (MoveDirEntry p q) = p ∷ q ∷ []
paths_touched (LinkDirEntry p file) = p ∷ []
paths_touched _ = []

abbrev pub touches : MicroOp → Path → Bool
touches op path = list_any (λ p. path_eq p path) (paths_touched op)

-- the paths that it names: those that it touches, and that of the directory whose owner, group and
-- permissions it sets
abbrev pub paths_named : MicroOp → List Path
paths_named (SetAttr (targets.Directory p) rights) = p ∷ []
paths_named op = paths_touched op

abbrev pub names_path : MicroOp → Path → Bool
names_path op path = list_any (λ p. path_eq p path) (paths_named op)

-- it touches an entry of the directory
abbrev pub touches_entry_of : MicroOp → Path → Bool
touches_entry_of op directory = list_any (λ p. path_eq directory (parent_path p)) (paths_touched op)

-- it makes the entry
abbrev pub creates : MicroOp → Path → Bool
creates (CreateDirEntry p node rights) path = path_eq p path
creates _ path = false

-- it sets owner, group and permissions of the directory
abbrev pub sets_directory : MicroOp → Path → Bool
sets_directory (SetAttr (targets.Directory p) rights) directory = path_eq p directory
sets_directory _ directory = false

-- it makes, deletes, moves or links an entry
abbrev pub is_entry_operation : MicroOp → Bool
is_entry_operation (CreateDirEntry p node rights) = true
is_entry_operation (DeleteDirEntry p kind) = true
is_entry_operation (MoveDirEntry p q) = true
is_entry_operation (LinkDirEntry p file) = true
is_entry_operation _ = false

-- ---- the rules

-- P1: both write one block of one file, or both change the size of one file
abbrev pub same_block_or_size : MicroOp → MicroOp → Bool
same_block_or_size (WriteBlock file block start at bytes)
    (WriteBlock other number begin from more) =
    file == other && block == number
same_block_or_size (ChangeFileSize file to) (ChangeFileSize other size) = file == other
same_block_or_size _ _ = false

-- P2: both name one path
abbrev pub shares_path : MicroOp → MicroOp → Bool
shares_path a b = list_any (names_path a) (paths_named b)

-- the places after i and before j
abbrev pub places_between : ℕ → ℕ → List ℕ
places_between i j = range_with_len (i + 1) (j - (i + 1))

-- i is the latest create of the path before j
unfoldable pub is_latest : List MicroOp → ℕ → ℕ → Path → Bool
is_latest ops i j q =
    creates (op_at ops i) q && not (list_any (λ k. creates (op_at ops k) q) (places_between i j))

-- P3: i is the latest create, before j, of the parent directory of a path that j names
abbrev pub makes_parent : List MicroOp → ℕ → ℕ → Bool
makes_parent ops i j = list_any (λ p. is_latest ops i j (parent_path p)) (paths_named (op_at ops j))

-- P4: b deletes a directory, and a touches an entry in it
abbrev pub touches_deleted_directory : MicroOp → MicroOp → Bool
touches_deleted_directory a (DeleteDirEntry d kinds.Directory) = touches_entry_of a d
touches_deleted_directory a _ = false

-- bytes from one place of a file to another lie in the range of so many bytes from an offset on
abbrev pub lies_within : ℕ → ℕ → ℕ → ℕ → Bool
lies_within offset count begin end = nat_le offset begin && nat_le end (offset + count)

-- a sync of a file covers its blocks, its sizes and what sets its owner, group and permissions; one
-- of a range of it covers its sizes, and those of its blocks' writes whose bytes all lie in the
-- range; and one of a directory covers what touches an entry of it and what sets its own
abbrev pub is_covered : Covers → MicroOp → Bool
is_covered covers.All a = true
is_covered (covers.File file) (WriteBlock other block start at bytes) = file == other
is_covered (covers.File file) (ChangeFileSize other size) = file == other
is_covered (covers.File file) (SetAttr (targets.File other) rights) = file == other
is_covered (covers.File file) _ = false
is_covered (covers.Range file offset count) (WriteBlock other block start at bytes) =
    file == other && lies_within offset count (start + at) (start + at + length bytes)
is_covered (covers.Range file offset count) (ChangeFileSize other size) = file == other
is_covered (covers.Range file offset count) _ = false
is_covered (covers.Directory d) a = touches_entry_of a d || sets_directory a d

-- P5: a sync between them covers i, which is a
abbrev pub is_synced : List SyncPoint → ℕ → ℕ → MicroOp → Bool
is_synced syncs i j a =
    list_any (λ s. (nat_lt i s.at && nat_le s.at j) && is_covered s.covers a) syncs

-- P6: both are acknowledged lines
abbrev pub both_say : MicroOp → MicroOp → Bool
both_say Say Say = true
both_say _ _ = false

-- P7: both set owner, group and permissions of one file
abbrev pub sets_same_file : MicroOp → MicroOp → Bool
sets_same_file (SetAttr (targets.File file) rights) (SetAttr (targets.File other) more) =
    file == other
sets_same_file _ _ = false

-- P8: both are entry operations, and the file system keeps these in order
abbrev pub keeps_order : Profile → MicroOp → MicroOp → Bool
keeps_order profiles.Blocks a b = false
keeps_order profiles.Ordered a b = is_entry_operation a && is_entry_operation b
keeps_order profiles.Journal a b = false

-- P9: a is an acknowledged line, in a version in which it comes before all that follows it
abbrev pub says_before : Version → MicroOp → Bool
says_before version Say = says_first version
says_before version _ = false

-- P10: a creates the file that b links
abbrev pub creates_linked : MicroOp → MicroOp → Bool
creates_linked (CreateDirEntry p (nodes.File file) rights) (LinkDirEntry q other) = file == other
creates_linked _ _ = false

-- the rules of all versions that look at these two only
abbrev pub common_pair_needs : Profile → MicroOp → MicroOp → Bool
common_pair_needs profile a b =
    same_block_or_size a b || shares_path a b || touches_deleted_directory a b || both_say a b
    || sets_same_file a b
    || keeps_order profile a b

-- and with them those that only version 3 knows
abbrev pub pair_needs : Version → MicroOp → MicroOp → Bool
pair_needs version a b =
    common_pair_needs (profile_of version) a b || says_before version a || creates_linked a b

-- j needs i: i is before j, and one of the rules says so
unfoldable pub needs : List MicroOp → List SyncPoint → Version → ℕ → ℕ → Bool
needs ops syncs version i j =
    nat_lt i j
    && (pair_needs version (op_at ops i) (op_at ops j)
    || makes_parent ops i j
    || is_synced syncs i j (op_at ops i))
