use Rattle.std.proofs.Common.{◌≡◌, ◌≤◌, length, take}
use Rattle.cs_names.specs.declared.limits.TheConstants.{MICRO_OPERATIONS}
use Rattle.cs_micro.specs.MicroOperations.{micro_operations_of}
use Rattle.cs_micro.proofs.counting.has_room.Given as goal

abbrev pub invariant-loop-operation : goal.invariant-loop-operation
invariant-loop-operation l = record {
  so_far : l.total ≡ length (micro_operations_of l.version (take l.operation-index l.operations));
  few : l.total ≤ MICRO_OPERATIONS;
}
