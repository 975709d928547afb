-- A trace of one of the first three versions, as it was read before version 4.
use Rattle.std.specs.Prelude.{◌≡◌, ℕ, ◌≤◌, Bool, false, List, Option, None, Some, length, map, take}
use Rattle.std.specs.Prelude.{option_map, Result, Ok, Err}
use Rattle.cs_entries.specs.declared.node.Node.{Node}
use Rattle.cs_entries.specs.declared.node.Node.TheVariants as now
use Rattle.cs_trace_lines.specs.Earlier.Version.{Version as EarlierVersion}
use Rattle.cs_trace_lines.specs.Earlier.Version as earlier_version
use Rattle.cs_trace_lines.specs.Versions.{is_fourth}
use Rattle.cs_trace_lines.specs.declared.profile.Profile.TheVariants.{Blocks}
use Rattle.cs_trace_lines.specs.declared.version.Version.{Version}
use Rattle.cs_trace_lines.specs.declared.version.Version.TheVariants as version
use Rattle.cs_trace.specs.declared.fault.TraceFault.{TraceFault}
use Rattle.cs_trace.specs.declared.operation.Covers.{Covers}
use Rattle.cs_trace.specs.declared.operation.Covers.TheVariants as covers
use Rattle.cs_trace.specs.declared.operation.Operation.{Operation}
use Rattle.cs_trace.specs.declared.operation.Operation.TheVariants as operation
use Rattle.cs_trace.specs.declared.operation.Target.{Target}
use Rattle.cs_trace.specs.declared.operation.Target.TheVariants as targets
use Rattle.cs_trace.specs.State.{State}
use Rattle.cs_trace.specs.States.{lines_in, state_in}
use Rattle.cs_trace.specs.Traces.{Trace, trace_in}
use Rattle.cs_trace.specs.Earlier.Covers.{Covers as EarlierCovers}
use Rattle.cs_trace.specs.Earlier.Covers as earlier_covers
use Rattle.cs_trace.specs.Earlier.Node.{Node as EarlierNode}
use Rattle.cs_trace.specs.Earlier.Node as earlier_node
use Rattle.cs_trace.specs.Earlier.Operation.{Operation as EarlierOperation}
use Rattle.cs_trace.specs.Earlier.Operation as earlier
use Rattle.cs_trace.specs.Earlier.Target.{Target as EarlierTarget}
use Rattle.cs_trace.specs.Earlier.Target as earlier_target
use Rattle.cs_trace.specs.Earlier.Traces.{Trace as EarlierTrace}
use Rattle.cs_trace.specs.Earlier.Traces as before

-- the version, of which there were three; for the fourth any
abbrev pub version_before : Version → EarlierVersion
version_before version.First = earlier_version.First
version_before (version.Second profile) = earlier_version.Second profile
version_before (version.Third profile block) = earlier_version.Third profile block
version_before (version.Fourth profile block) = earlier_version.Third profile block

-- a directory had no number, and no file was a symbolic link
abbrev pub node_before : Node → EarlierNode
node_before (now.Directory number) = earlier_node.Directory
node_before (now.File kind file) = earlier_node.File file

abbrev pub covers_before : Covers → EarlierCovers
covers_before covers.All = earlier_covers.All
covers_before (covers.File file) = earlier_covers.File file
covers_before (covers.Data file) = earlier_covers.File file
covers_before (covers.Range file offset count) = earlier_covers.Range file offset count
covers_before (covers.Directory number path) = earlier_covers.Directory path

abbrev pub target_before : Target → EarlierTarget
target_before (targets.File file) = earlier_target.File file
target_before (targets.Directory number path) = earlier_target.Directory path

abbrev pub operation_before : Operation → EarlierOperation
operation_before (operation.Creat e file rights) = earlier.Creat e.path file rights
operation_before (operation.Mkdir e directory rights) = earlier.Mkdir e.path rights
operation_before (operation.Symlink e file rights target) = earlier.Creat e.path file rights
operation_before (operation.Link e file) = earlier.Link e.path file
operation_before (operation.Unlink e kind file) = earlier.Unlink e.path
operation_before (operation.Rmdir e directory) = earlier.Rmdir e.path
operation_before (operation.Rename a b node old) = earlier.Rename a.path b.path
operation_before (operation.Write file size offset bytes) = earlier.Write file size offset bytes
operation_before (operation.Truncate file size to) = earlier.Truncate file size to
operation_before (operation.SetAttr target before after) =
    earlier.SetAttr (target_before target) before after
operation_before (operation.Sync covers) = earlier.Sync (covers_before covers)
operation_before operation.Say = earlier.Say

abbrev pub trace_before : Trace → EarlierTrace
trace_before t = record {
  records = t.records;
  nodes = map node_before t.nodes;
  files = t.files;
  links = t.links;
  operations = map operation_before t.operations;
  version = version_before t.version;
}

-- no line says that it is a trace of the fourth version
abbrev pub IsEarly : List ℕ → Type 0
IsEarly text =
    (k : ℕ) (s : State) → k ≤ length (lines_in text) → state_in (take k (lines_in text)) ≡ Ok s
    → is_fourth s.version ≡ false

-- a text of an earlier version is read as before, and has the fault that it had
pub record AreReadAsBefore : Type 0 where
  pub read : (text : List ℕ) (t : Trace) → IsEarly text → trace_in text ≡ Ok t
      → before.trace_in text ≡ Ok (trace_before t)
  pub fault : (text : List ℕ) (fault : TraceFault) → IsEarly text → trace_in text ≡ Err fault
      → before.trace_in text ≡ Err fault
