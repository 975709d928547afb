-- What an operation's line needs of the tree, in parts; for private clauses.
use Rattle.std.specs.Prelude.{ℕ, ◌||◌, nat_lt, Option, None, Some, Result, Ok, Err}
use Rattle.cs_entries.specs.declared.entry.DirEntry.{DirEntry}
use Rattle.cs_entries.specs.declared.node.FileKind.TheVariants.{Regular, Symlink}
use Rattle.cs_entries.specs.declared.node.Node.{Node}
use Rattle.cs_entries.specs.declared.node.Node.TheVariants.{Directory, File}
use Rattle.cs_names.specs.declared.limits.TheConstants.{TRACE_PATH_NAMES}
use Rattle.cs_tree_model.specs.Tree.{Path}
use Rattle.cs_trace.specs.Judging.{and_then, file_at, free_at, has_too_many_names, is_too_much}
use Rattle.cs_trace.specs.Judging.{node_at, unless_too_large, unmoved}
use Rattle.cs_trace.specs.State.{State}
use Rattle.cs_trace.specs.declared.fault.TraceFaultKind.{TraceFaultKind}
use Rattle.cs_trace.specs.declared.fault.TraceFaultKind.TheVariants.{Missing, NotFile}
use Rattle.cs_trace.specs.declared.operation.Covers.{Covers}
use Rattle.cs_trace.specs.declared.operation.Covers.TheVariants as covers
use Rattle.cs_trace.specs.declared.operation.Operation.{Operation}

-- the entry of a new file or directory
abbrev pub new_entry_at : State → Path → Result DirEntry TraceFaultKind
new_entry_at s p = and_then (free_at s p) (unless_too_large (is_too_much s.made p))

-- a rename that does nothing; `others` is how many names the other path has
abbrev pub unmoved_within : ℕ → DirEntry → Node → Result Operation TraceFaultKind
unmoved_within others e node =
    unless_too_large (nat_lt TRACE_PATH_NAMES others || has_too_many_names e.path) (unmoved e node)

-- what an fsync covers
abbrev pub covers_by : Option Node → Path → Result Covers TraceFaultKind
covers_by None p = Err Missing
covers_by (Some (Directory d)) p = Ok (covers.Directory d p)
covers_by (Some (File Symlink file)) p = Err NotFile
covers_by (Some (File Regular file)) p = Ok (covers.File file)

abbrev pub covers_at : State → Path → Result Covers TraceFaultKind
covers_at s p = covers_by (node_at s p) p

-- the file that an fdatasync or an fsync_range is of
abbrev pub synced_file_at : State → Path → Result ℕ TraceFaultKind
synced_file_at s p = and_then (file_at s p) (unless_too_large (has_too_many_names p))
