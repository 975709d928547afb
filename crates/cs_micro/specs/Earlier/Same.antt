-- The micro-operations of a trace of one of the first three versions, as before version 4.
use Rattle.std.specs.Prelude.{map}
use Rattle.cs_entries.specs.declared.node.Node.{Node}
use Rattle.cs_entries.specs.declared.node.Node.TheVariants as nodes
use Rattle.cs_trace.specs.Earlier.Same.{covers_before, node_before, target_before, version_before}
use Rattle.cs_micro.specs.Micros.{Micros}
use Rattle.cs_micro.specs.declared.micro_op.MicroOp.{MicroOp}
use Rattle.cs_micro.specs.declared.micro_op.MicroOp.TheVariants as micro
use Rattle.cs_micro.specs.declared.sync_point.SyncPoint.{SyncPoint}
use Rattle.cs_micro.specs.Earlier.EntryKind.{EntryKind}
use Rattle.cs_micro.specs.Earlier.EntryKind as kinds
use Rattle.cs_micro.specs.Earlier.MicroOp.{MicroOp as EarlierMicroOp}
use Rattle.cs_micro.specs.Earlier.MicroOp as earlier
use Rattle.cs_micro.specs.Earlier.Micros.{Micros as EarlierMicros}
use Rattle.cs_micro.specs.Earlier.SyncPoint.{SyncPoint as EarlierSyncPoint}

abbrev pub kind_before : Node → EntryKind
kind_before (nodes.Directory number) = kinds.Directory
kind_before (nodes.File kind file) = kinds.File

-- a micro-operation by its paths
abbrev pub op_before : MicroOp → EarlierMicroOp
op_before (micro.CreateDirEntry e node rights bytes) =
    earlier.CreateDirEntry e.path (node_before node) rights
op_before (micro.DeleteDirEntry e node) = earlier.DeleteDirEntry e.path (kind_before node)
op_before (micro.MoveDirEntry a b node old) = earlier.MoveDirEntry a.path b.path
op_before (micro.LinkDirEntry e kind file old half) = earlier.LinkDirEntry e.path file
op_before (micro.ChangeFileSize file to) = earlier.ChangeFileSize file to
op_before (micro.WriteBlock file block start at bytes) =
    earlier.WriteBlock file block start at bytes
op_before (micro.SetAttr target rights) = earlier.SetAttr (target_before target) rights
op_before micro.Say = earlier.Say

abbrev pub sync_before : SyncPoint → EarlierSyncPoint
sync_before s = record { at = s.at; covers = covers_before s.covers }

abbrev pub micros_as_before : Micros → EarlierMicros
micros_as_before m = record {
  ops = map op_before m.ops;
  syncs = map sync_before m.syncs;
  starts = m.starts;
  version = version_before m.version;
}
