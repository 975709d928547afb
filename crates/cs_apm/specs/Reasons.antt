-- Why one micro-operation of a trace needs another: the rules of order as sentences.
use Rattle.std.specs.Prelude.{◌≡◌, ◌<◌, ◌≤◌, ◌⊎◌, ℕ, zero, suc, ◌+◌, Bool, true, List, Option, Some, length}
use Rattle.std.specs.Prelude.{slice_get}
use Rattle.std.specs.List.{Contains}
use Rattle.cs_entries.specs.declared.entry.DirEntry.{DirEntry}
use Rattle.cs_entries.specs.declared.node.FileKind.{FileKind}
use Rattle.cs_entries.specs.declared.node.Node.{Node}
use Rattle.cs_entries.specs.declared.node.Node.TheVariants.{Directory, File}
use Rattle.cs_entries.specs.declared.entry.Entry.{Entry}
use Rattle.cs_entries.specs.Entries.{MovesDirectory, Removes}
use Rattle.cs_entries.specs.Rules.{entries_touched}
use Rattle.cs_trace.specs.declared.operation.Covers.{Covers}
use Rattle.cs_trace.specs.declared.operation.Covers.TheVariants as covers
use Rattle.cs_start.specs.declared.rights.Rights.{Rights}
use Rattle.cs_trace.specs.declared.operation.Target.TheVariants as targets
use Rattle.cs_trace_lines.specs.Versions.{says_first}
use Rattle.cs_trace_lines.specs.declared.profile.Profile.{Profile}
use Rattle.cs_trace_lines.specs.declared.profile.Profile.TheVariants as profiles
use Rattle.cs_trace_lines.specs.declared.version.Version.{Version}
use Rattle.cs_micro.specs.Legal.{entry_op}
use Rattle.cs_micro.specs.declared.micro_op.MicroOp.{MicroOp}
use Rattle.cs_micro.specs.declared.micro_op.MicroOp.TheVariants.{CreateDirEntry, DeleteDirEntry}
use Rattle.cs_micro.specs.declared.micro_op.MicroOp.TheVariants.{MoveDirEntry, LinkDirEntry}
use Rattle.cs_micro.specs.declared.micro_op.MicroOp.TheVariants.{ChangeFileSize, WriteBlock}
use Rattle.cs_micro.specs.declared.micro_op.MicroOp.TheVariants.{SetAttr, Say}
use Rattle.cs_micro.specs.declared.sync_point.SyncPoint.{SyncPoint}
use Rattle.cs_apm.specs.Rules.{op_at}

-- ---- entries and directories

-- it touches the entry
abbrev pub Touches : MicroOp → Entry → Type 0
Touches op e = Contains (entries_touched (entry_op op)) e

-- it touches an entry of the directory
pub record TouchesEntryOf (o : MicroOp) (d : ℕ) : Type 0 where
  pub entry : Entry
  pub touching : Touches o entry
  pub inside : entry.directory ≡ d

-- it makes what the node says
abbrev pub Creates : MicroOp → Node → Type 0
Creates op node =
    (e : DirEntry) × (rights : Rights) × (bytes : List ℕ)
    × (op ≡ CreateDirEntry e node rights bytes)

-- it links the file of the kind and the number
abbrev pub Links : MicroOp → FileKind → ℕ → Type 0
Links op kind file =
    (e : DirEntry) × (old : Option Node) × (half : Bool)
    × (op ≡ LinkDirEntry e kind file old half)

-- it sets owner, group and permissions of the directory
abbrev pub SetsDirectory : MicroOp → ℕ → Type 0
SetsDirectory op d =
    (path : List (List ℕ)) × (rights : Rights)
    × (op ≡ SetAttr (targets.Directory d path) rights)

-- it makes or removes the directory, or sets its owner, group and permissions
abbrev pub Settles : MicroOp → ℕ → Type 0
Settles op d = (Creates op (Directory d) ⊎ Removes (entry_op op) d) ⊎ SetsDirectory op d

-- i is the latest before j that makes the directory
pub record IsLatestMaking (ops : List MicroOp) (i j d : ℕ) : Type 0 where
  pub made : Creates (op_at ops i) (Directory d)
  pub last : (k : ℕ) → i < k → k < j → Creates (op_at ops k) (Directory d) → ⊥

-- it makes, deletes, moves or links an entry
abbrev pub IsEntryOperation : MicroOp → Type 0
IsEntryOperation (CreateDirEntry e node rights bytes) = Unit {0}
IsEntryOperation (DeleteDirEntry e node) = Unit {0}
IsEntryOperation (MoveDirEntry a b node old) = Unit {0}
IsEntryOperation (LinkDirEntry e kind file old half) = Unit {0}
IsEntryOperation _ = ⊥

-- ---- files

-- it writes into the block of the file
abbrev pub WritesBlock : MicroOp → ℕ → ℕ → Type 0
WritesBlock op file block =
    (start : ℕ) × (at : ℕ) × (bytes : List ℕ) × (op ≡ WriteBlock file block start at bytes)

-- it writes into the file
abbrev pub Writes : MicroOp → ℕ → Type 0
Writes op file = (block : ℕ) × WritesBlock op file block

-- it writes into a block of the file, and all its bytes are in the range of `count` bytes from the
-- offset on
pub record WritesWithin (o : MicroOp) (file offset count : ℕ) : Type 0 where
  pub block : ℕ
  pub start : ℕ
  pub at : ℕ
  pub bytes : List ℕ
  pub is : o ≡ WriteBlock file block start at bytes
  pub from : offset ≤ start + at
  pub to : start + at + length bytes ≤ offset + count

-- it changes the size of the file
abbrev pub ChangesSize : MicroOp → ℕ → Type 0
ChangesSize op file = (size : ℕ) × (op ≡ ChangeFileSize file size)

-- it sets owner, group and permissions of the file
abbrev pub SetsFile : MicroOp → ℕ → Type 0
SetsFile op file = (rights : Rights) × (op ≡ SetAttr (targets.File file) rights)

-- ---- syncs

-- a sync of everything covers every operation; one of a file its blocks, its sizes and what sets
-- its owner, group and permissions; one of its data its blocks and its sizes; one of a range of it
-- its sizes, and what writes only bytes of the range; and one of a directory what touches an entry
-- of it and what sets its own
abbrev pub IsCovered : Covers → MicroOp → Type 0
IsCovered covers.All op = Unit {0}
IsCovered (covers.File file) op = (Writes op file ⊎ ChangesSize op file) ⊎ SetsFile op file
IsCovered (covers.Data file) op = Writes op file ⊎ ChangesSize op file
IsCovered (covers.Range file offset count) op =
    WritesWithin op file offset count ⊎ ChangesSize op file
IsCovered (covers.Directory directory path) op =
    TouchesEntryOf op directory ⊎ SetsDirectory op directory

-- a sync between i and j covers i
pub record IsSyncedBetween (ops : List MicroOp) (syncs : List SyncPoint) (i j : ℕ) : Type 0 where
  pub point : SyncPoint
  pub there : Contains syncs point
  pub behind : i < point.at
  pub ahead : point.at ≤ j
  pub covered : IsCovered point.covers (op_at ops i)

-- ---- what forces the log

-- it moves the node, and replaces what `old` says
abbrev pub MovesOnto : MicroOp → Node → Option Node → Type 0
MovesOnto op node old =
    (a : DirEntry) × (b : DirEntry) × (op ≡ MoveDirEntry a b node old)

-- it makes, links, moves, removes or replaces the node
pub data Handles (o : MicroOp) (node : Node) : Type 0 where
  makes : Creates o node → Handles o node
  links : (kind : FileKind) (file : ℕ) → node ≡ File kind file → Links o kind file
      → Handles o node
  moves : (old : Option Node) → MovesOnto o node old → Handles o node
  removes : (e : DirEntry) → o ≡ DeleteDirEntry e node → Handles o node
  replaces : (moved : Node) → MovesOnto o moved (Some node) → Handles o node
  links_over : (e : DirEntry) (kind : FileKind) (file : ℕ) (half : Bool)
      → o ≡ LinkDirEntry e kind file (Some node) half → Handles o node

-- it changes the file of the number in any way, or one of its entries
abbrev pub AltersFile : MicroOp → ℕ → Type 0
AltersFile op file =
    ((Writes op file ⊎ ChangesSize op file) ⊎ SetsFile op file)
    ⊎ ((kind : FileKind) × Handles op (File kind file))

-- it changes the directory of the number in any way: an entry in it, its own entry, or its owner,
-- group and permissions
abbrev pub AltersDirectory : MicroOp → ℕ → Type 0
AltersDirectory op d = (TouchesEntryOf op d ⊎ SetsDirectory op d) ⊎ Handles op (Directory d)

-- it changes the size of the file, or makes it
abbrev pub ResizesOrMakes : MicroOp → ℕ → Type 0
ResizesOrMakes op file = ChangesSize op file ⊎ ((kind : FileKind) × Creates op (File kind file))

-- a sync of what it changes has something to write to the log; a sync of data only if it changes
-- the size, or makes the file
abbrev pub HasToLog : Covers → MicroOp → Type 0
HasToLog covers.All op = Unit {0}
HasToLog (covers.File file) op = AltersFile op file
HasToLog (covers.Data file) op = ResizesOrMakes op file
HasToLog (covers.Range file offset count) op = ResizesOrMakes op file
HasToLog (covers.Directory d path) op = AltersDirectory op d

-- the n-th sync point
abbrev pub IsPointAt : List SyncPoint → ℕ → SyncPoint → Type 0
IsPointAt syncs n point = slice_get syncs n ≡ Some point

-- the place from which the n-th sync point looks for what it has to log: that of the sync point
-- before it, of any kind, or 0 for the first
abbrev pub IsBefore : List SyncPoint → ℕ → ℕ → Type 0
IsBefore syncs zero from = from ≡ 0
IsBefore syncs (suc n) from = (point : SyncPoint) × IsPointAt syncs n point × (from ≡ point.at)

-- the n-th sync point is fresh: it has something to log between the sync point before it and itself
pub record IsFresh (ops : List MicroOp) (syncs : List SyncPoint) (n : ℕ) (point : SyncPoint)
    : Type 0 where
  pub from : ℕ
  pub last : IsBefore syncs n from
  pub k : ℕ
  pub behind : from ≤ k
  pub ahead : k < point.at
  pub logged : HasToLog point.covers (op_at ops k)

-- a sync of everything, or a fresh sync point of a file or directory, is between i and j
pub record IsLoggedBetween (ops : List MicroOp) (syncs : List SyncPoint) (i j : ℕ) : Type 0 where
  pub n : ℕ
  pub point : SyncPoint
  pub there : IsPointAt syncs n point
  pub behind : i < point.at
  pub ahead : point.at ≤ j
  pub forced : (point.covers ≡ covers.All) ⊎ IsFresh ops syncs n point

-- ---- the rules

-- the file system keeps entry operations in order
abbrev pub KeepsOrder : Profile → Type 0
KeepsOrder profiles.Blocks = ⊥
KeepsOrder profiles.Ordered = Unit {0}
KeepsOrder profiles.Journal = Unit {0}

-- the thirteen rules, the first of them for blocks and for sizes, the second for entries and for
-- directories
pub data Reason (ops : List MicroOp) (syncs : List SyncPoint) (version : Version)
    (profile : Profile) (i j : ℕ) : Type 0 where
  -- both write one block of one file
  writes_one_block : (file block : ℕ) → WritesBlock (op_at ops i) file block
      → WritesBlock (op_at ops j) file block → Reason ops syncs version profile i j
  -- both change the size of one file
  resizes_one_file : (file : ℕ) → ChangesSize (op_at ops i) file → ChangesSize (op_at ops j) file
      → Reason ops syncs version profile i j
  -- both touch one entry
  touches_one_entry : (e : Entry) → Touches (op_at ops i) e → Touches (op_at ops j) e
      → Reason ops syncs version profile i j
  -- both make, remove or set one directory
  settles_one_directory : (d : ℕ) → Settles (op_at ops i) d → Settles (op_at ops j) d
      → Reason ops syncs version profile i j
  -- i is the latest, before j, that makes the directory in which j touches an entry
  makes_directory : (e : Entry) → Touches (op_at ops j) e → IsLatestMaking ops i j e.directory
      → Reason ops syncs version profile i j
  -- j removes a directory, and i touches an entry in it
  empties_directory : (d : ℕ) → Removes (entry_op (op_at ops j)) d
      → TouchesEntryOf (op_at ops i) d → Reason ops syncs version profile i j
  -- a sync between them covers i
  is_waited_for : IsSyncedBetween ops syncs i j → Reason ops syncs version profile i j
  -- both are acknowledged lines
  tells_after : op_at ops i ≡ Say → op_at ops j ≡ Say → Reason ops syncs version profile i j
  -- both set owner, group and permissions of one file
  sets_one_file : (file : ℕ) → SetsFile (op_at ops i) file → SetsFile (op_at ops j) file
      → Reason ops syncs version profile i j
  -- both make, delete, move or link an entry, and the file system keeps these in order
  is_kept_in_order : KeepsOrder profile → IsEntryOperation (op_at ops i)
      → IsEntryOperation (op_at ops j) → Reason ops syncs version profile i j
  -- i is an acknowledged line, in a version in which it comes before all that follows it
  is_acknowledged_first : says_first version ≡ true → op_at ops i ≡ Say
      → Reason ops syncs version profile i j
  -- i makes the file or symbolic link that j links
  creates_what_is_linked : (file : ℕ) (kind other : FileKind)
      → Creates (op_at ops i) (File kind file) → Links (op_at ops j) other file
      → Reason ops syncs version profile i j
  -- the file system has a journal, i is an entry operation, and between them the log is forced
  is_journaled : profile ≡ profiles.Journal → IsEntryOperation (op_at ops i)
      → IsLoggedBetween ops syncs i j → Reason ops syncs version profile i j
  -- both move directories
  moves_directories : MovesDirectory (entry_op (op_at ops i))
      → MovesDirectory (entry_op (op_at ops j)) → Reason ops syncs version profile i j
  -- i and j are the halves of one rename
  is_other_half : (e : DirEntry) (kind : FileKind) (file : ℕ) (old : Option Node)
      → op_at ops i ≡ LinkDirEntry e kind file old true → j ≡ i + 1
      → Reason ops syncs version profile i j

-- j needs i
pub record Needs (ops : List MicroOp) (syncs : List SyncPoint) (version : Version)
    (profile : Profile) (i j : ℕ) : Type 0 where
  pub before : i < j
  pub reason : Reason ops syncs version profile i j
