use Rattle.std.proofs.Common.{◌≡◌, take}
use Rattle.cs_micro.specs.MicroOperations.{micro_operations_of}
use Rattle.cs_micro.proofs.Points.{points_below}
use Rattle.cs_micro.proofs.breaking.micros_and_syncs.Given as goal

abbrev pub invariant-loop-operation : goal.invariant-loop-operation
invariant-loop-operation l = record {
  ops : l.ops.items ≡ micro_operations_of l.version (take l.operation-index l.operations);
  syncs : l.syncs.items ≡ points_below l.version l.operations l.operation-index;
}
