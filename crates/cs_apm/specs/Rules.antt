-- Which micro-operation of a trace needs which: the rules of order, as tests.
use Rattle.std.specs.Prelude.{ℕ, ◌+◌, ◌-◌, ◌==◌, ◌&&◌, ◌||◌, nat_lt, nat_le, Bool, true, false, List, []}
use Rattle.std.specs.Prelude.{◌∷◌, ◌++◌, Option, None, Some, length, slice_index_or}
use Rattle.std.specs.Prelude.{if◌then◌else◌}
use Rattle.std.specs.List.{list_any, range_with_len}
use Rattle.cs_entries.specs.declared.node.Node.{Node}
use Rattle.cs_entries.specs.declared.node.Node.TheVariants.{Directory, File}
use Rattle.cs_entries.specs.Entries.{EntryOp}
use Rattle.cs_entries.specs.Rules.{empties, entries_touched, makes, makes_directory, removes}
use Rattle.cs_entries.specs.Rules.{moves_directory, shares_entry}
use Rattle.cs_trace.specs.declared.operation.Covers.{Covers}
use Rattle.cs_trace.specs.declared.operation.Covers.TheVariants as covers
use Rattle.cs_trace.specs.declared.operation.Target.TheVariants as targets
use Rattle.cs_trace_lines.specs.Versions.{says_first}
use Rattle.cs_trace_lines.specs.declared.profile.Profile.{Profile}
use Rattle.cs_trace_lines.specs.declared.profile.Profile.TheVariants as profiles
use Rattle.cs_trace_lines.specs.declared.version.Version.{Version}
use Rattle.cs_micro.specs.Legal.{entry_op}
use Rattle.cs_micro.specs.declared.micro_op.MicroOp.{MicroOp}
use Rattle.cs_micro.specs.declared.micro_op.MicroOp.TheVariants.{CreateDirEntry, DeleteDirEntry}
use Rattle.cs_micro.specs.declared.micro_op.MicroOp.TheVariants.{MoveDirEntry, LinkDirEntry}
use Rattle.cs_micro.specs.declared.micro_op.MicroOp.TheVariants.{ChangeFileSize, WriteBlock}
use Rattle.cs_micro.specs.declared.micro_op.MicroOp.TheVariants.{SetAttr, Say}
use Rattle.cs_micro.specs.declared.sync_point.SyncPoint.{SyncPoint}

-- the micro-operation at a place
abbrev pub op_at : List MicroOp → ℕ → MicroOp
op_at ops place = slice_index_or ops place Say

-- what the micro-operation at a place does to entries
abbrev pub entry_op_at : List MicroOp → ℕ → EntryOp
entry_op_at ops place = entry_op (op_at ops place)

-- it touches an entry of the directory
abbrev pub touches_entry_of : MicroOp → ℕ → Bool
touches_entry_of op directory =
    list_any (λ e. e.directory == directory) (entries_touched (entry_op op))

-- it sets owner, group and permissions of the directory
abbrev pub sets_directory : MicroOp → ℕ → Bool
sets_directory (SetAttr (targets.Directory number path) rights) directory = number == directory
sets_directory _ directory = false

-- it makes, deletes, moves or links an entry
abbrev pub is_entry_operation : MicroOp → Bool
is_entry_operation (CreateDirEntry e node rights bytes) = true
is_entry_operation (DeleteDirEntry e node) = true
is_entry_operation (MoveDirEntry a b node old) = true
is_entry_operation (LinkDirEntry e kind file old half) = true
is_entry_operation _ = false

-- ---- the rules

-- P1: both write one block of one file, or both change the size of one file
abbrev pub same_block_or_size : MicroOp → MicroOp → Bool
same_block_or_size (WriteBlock file block start at bytes)
    (WriteBlock other number begin from more) =
    file == other && block == number
same_block_or_size (ChangeFileSize file to) (ChangeFileSize other size) = file == other
same_block_or_size _ _ = false

-- it makes or removes the directory, or sets its owner, group and permissions
abbrev pub settles : MicroOp → ℕ → Bool
settles op d = makes (entry_op op) d || removes (entry_op op) d || sets_directory op d

abbrev pub directory_in : Node → List ℕ
directory_in (Directory d) = d ∷ []
directory_in (File kind file) = []

abbrev pub directory_replaced : Option Node → List ℕ
directory_replaced None = []
directory_replaced (Some node) = directory_in node

-- the directories that it settles
abbrev pub directories_settled : MicroOp → List ℕ
directories_settled (CreateDirEntry e node rights bytes) = directory_in node
directories_settled (DeleteDirEntry e node) = directory_in node
directories_settled (MoveDirEntry a b node old) = directory_replaced old
directories_settled (SetAttr (targets.Directory number path) rights) = number ∷ []
directories_settled _ = []

-- P2: both touch one entry, or settle one directory
abbrev pub shares_name : MicroOp → MicroOp → Bool
shares_name a b =
    shares_entry (entry_op a) (entry_op b) || list_any (settles a) (directories_settled b)

-- P3: i is the latest, before j, that makes the directory in which j touches an entry; a directory
-- with a number of its own is made once
abbrev pub makes_parent : List MicroOp → ℕ → ℕ → Bool
makes_parent ops = makes_directory (entry_op_at ops)

-- P4: b removes a directory, and a touches an entry in it
abbrev pub touches_removed_directory : MicroOp → MicroOp → Bool
touches_removed_directory a b = empties (entry_op a) (entry_op b)

-- the bytes of a file from `begin` on and before `end` are in the range of `count` bytes from an
-- offset on
abbrev pub lies_within : ℕ → ℕ → ℕ → ℕ → Bool
lies_within offset count begin end = nat_le offset begin && nat_le end (offset + count)

-- a sync of a file covers its blocks, its sizes and what sets its owner, group and permissions; one
-- of its data covers its blocks and its sizes; one of a range of it covers its sizes, and the
-- writes of blocks whose bytes are all in the range; and one of a directory covers what touches an
-- entry in it and what sets the directory's owner, group and permissions
abbrev pub is_covered : Covers → MicroOp → Bool
is_covered covers.All a = true
is_covered (covers.File file) (WriteBlock other block start at bytes) = file == other
is_covered (covers.File file) (ChangeFileSize other size) = file == other
is_covered (covers.File file) (SetAttr (targets.File other) rights) = file == other
is_covered (covers.File file) _ = false
is_covered (covers.Data file) (WriteBlock other block start at bytes) = file == other
is_covered (covers.Data file) (ChangeFileSize other size) = file == other
is_covered (covers.Data file) _ = false
is_covered (covers.Range file offset count) (WriteBlock other block start at bytes) =
    file == other && lies_within offset count (start + at) (start + at + length bytes)
is_covered (covers.Range file offset count) (ChangeFileSize other size) = file == other
is_covered (covers.Range file offset count) _ = false
is_covered (covers.Directory d path) a = touches_entry_of a d || sets_directory a d

-- P5: a sync between them covers i, which is a
abbrev pub is_synced : List SyncPoint → ℕ → ℕ → MicroOp → Bool
is_synced syncs i j a =
    list_any (λ s. (nat_lt i s.at && nat_le s.at j) && is_covered s.covers a) syncs

-- P6: both are acknowledged lines
abbrev pub both_say : MicroOp → MicroOp → Bool
both_say Say Say = true
both_say _ _ = false

-- P7: both set owner, group and permissions of one file
abbrev pub sets_same_file : MicroOp → MicroOp → Bool
sets_same_file (SetAttr (targets.File file) rights) (SetAttr (targets.File other) more) =
    file == other
sets_same_file _ _ = false

-- P8: both are entry operations, and the file system keeps these in order
abbrev pub keeps_order : Profile → MicroOp → MicroOp → Bool
keeps_order profiles.Blocks a b = false
keeps_order profiles.Ordered a b = is_entry_operation a && is_entry_operation b
keeps_order profiles.Journal a b = is_entry_operation a && is_entry_operation b

-- P9: a is an acknowledged line, in a version in which it comes before all that follows it
abbrev pub says_before : Version → MicroOp → Bool
says_before version Say = says_first version
says_before version _ = false

-- P10: a creates the file or symbolic link that b links
abbrev pub creates_linked : MicroOp → MicroOp → Bool
creates_linked (CreateDirEntry e (File kind file) rights bytes)
    (LinkDirEntry f other number old half) =
    file == number
creates_linked _ _ = false

-- P12: both move directories
abbrev pub both_move_directories : MicroOp → MicroOp → Bool
both_move_directories a b = moves_directory (entry_op a) && moves_directory (entry_op b)

-- it is the first half of a rename
abbrev pub is_first_half : MicroOp → Bool
is_first_half (LinkDirEntry e kind file old half) = half
is_first_half _ = false

-- P13: i and j are the halves of one rename
abbrev pub are_halves : List MicroOp → ℕ → ℕ → Bool
are_halves ops i j = is_first_half (op_at ops i) && j == i + 1

-- ---- P11: what forces the log of a file system with a journal

-- the files and directories that it makes, links, moves, removes or replaces
abbrev pub nodes_handled : MicroOp → List Node
nodes_handled (CreateDirEntry e node rights bytes) = node ∷ []
nodes_handled (DeleteDirEntry e node) = node ∷ []
nodes_handled (MoveDirEntry a b node None) = node ∷ []
nodes_handled (MoveDirEntry a b node (Some old)) = node ∷ old ∷ []
nodes_handled (LinkDirEntry e kind file None half) = File kind file ∷ []
nodes_handled (LinkDirEntry e kind file (Some old) half) = File kind file ∷ old ∷ []
nodes_handled _ = []

abbrev pub is_file_numbered : ℕ → Node → Bool
is_file_numbered n (Directory d) = false
is_file_numbered n (File kind file) = file == n

abbrev pub is_directory_numbered : ℕ → Node → Bool
is_directory_numbered n (Directory d) = d == n
is_directory_numbered n (File kind file) = false

-- it writes to the file, changes its size, or sets its owner, group and permissions
abbrev pub alters_inode : ℕ → MicroOp → Bool
alters_inode n (WriteBlock file block start at bytes) = file == n
alters_inode n (ChangeFileSize file to) = file == n
alters_inode n (SetAttr (targets.File file) rights) = file == n
alters_inode n _ = false

-- it changes the file in any way, or one of its entries
abbrev pub alters_file : ℕ → MicroOp → Bool
alters_file n op = alters_inode n op || list_any (is_file_numbered n) (nodes_handled op)

-- it changes the directory in any way: an entry in it, its own entry, or its owner, group and
-- permissions
abbrev pub alters_directory : ℕ → MicroOp → Bool
alters_directory n op =
    touches_entry_of op n || sets_directory op n
    || list_any (is_directory_numbered n) (nodes_handled op)

-- it changes the size of the file, or makes it
abbrev pub resizes_or_makes : ℕ → MicroOp → Bool
resizes_or_makes n (ChangeFileSize file to) = file == n
resizes_or_makes n (CreateDirEntry e node rights bytes) = is_file_numbered n node
resizes_or_makes n _ = false

-- a sync of what the micro-operation changes has something to write to the log; a sync of data only
-- if it changes the size, or makes the file
abbrev pub has_to_log : Covers → MicroOp → Bool
has_to_log covers.All op = true
has_to_log (covers.File file) op = alters_file file op
has_to_log (covers.Data file) op = resizes_or_makes file op
has_to_log (covers.Range file offset count) op = resizes_or_makes file op
has_to_log (covers.Directory d path) op = alters_directory d op

-- the places from `from` on and before `to`
abbrev pub places_from : ℕ → ℕ → List ℕ
places_from from to = range_with_len from (to - from)

-- a sync of everything forces the log, whatever comes before it
abbrev pub is_of_all : Covers → Bool
is_of_all covers.All = true
is_of_all _ = false

-- another sync point does if it has something to log: a micro-operation from place `from` on, that
-- of the sync point before it (0 at the start), and before its own place
abbrev pub forces_log : List MicroOp → ℕ → SyncPoint → Bool
forces_log ops from s =
    is_of_all s.covers
    || list_any (λ k. has_to_log s.covers (op_at ops k)) (places_from from s.at)

-- the places at which these sync points force the log, if the sync point before them is at `from`
abbrev pub log_forced_at : List MicroOp → ℕ → List SyncPoint → List ℕ
log_forced_at ops from [] = []
log_forced_at ops from (s ∷ syncs) =
    (if forces_log ops from s then s.at ∷ [] else []) ++ log_forced_at ops s.at syncs

-- the log is forced between i and j, if it is forced at these places
abbrev pub is_forced_between : List ℕ → ℕ → ℕ → Bool
is_forced_between forced i j = list_any (λ at. nat_lt i at && nat_le at j) forced

-- P11: i is an entry operation, and between i and j the log is forced
abbrev pub is_journaled : Profile → List MicroOp → List SyncPoint → ℕ → ℕ → Bool
is_journaled profiles.Blocks ops syncs i j = false
is_journaled profiles.Ordered ops syncs i j = false
is_journaled profiles.Journal ops syncs i j =
    is_entry_operation (op_at ops i)
    && is_forced_between (log_forced_at ops 0 syncs) i j

-- ---- all of them

-- the rules that look at these two only
abbrev pub pair_needs : Version → Profile → MicroOp → MicroOp → Bool
pair_needs version profile a b =
    same_block_or_size a b || shares_name a b || touches_removed_directory a b || both_say a b
    || sets_same_file a b || keeps_order profile a b || says_before version a || creates_linked a b
    || both_move_directories a b

-- j needs i on a file system of the profile: i is before j, and one of the rules says so
unfoldable pub needs : List MicroOp → List SyncPoint → Version → Profile → ℕ → ℕ → Bool
needs ops syncs version profile i j =
    nat_lt i j
    && (pair_needs version profile (op_at ops i) (op_at ops j)
    || makes_parent ops i j
    || is_synced syncs i j (op_at ops i)
    || is_journaled profile ops syncs i j
    || are_halves ops i j)
