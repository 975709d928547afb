use Rattle.std.proofs.Common.{◌+◌, ◌*◌, ◌≤◌, length}
use Rattle.std.specs.FinMap.{len}
use Rattle.cs_trace.specs.Traces.{entries_of_paths, paths_of_records}
use Rattle.cs_apm.specs.Held.{HasAllTouched, HoldsAll, held_of}
use Rattle.cs_apm.proofs.held.held_entries.Given as goal

abbrev pub invariant-loop-op : goal.invariant-loop-op
invariant-loop-op l = record {
  start : HoldsAll (held_of l.held) (entries_of_paths (paths_of_records l.records l.nodes));
  touched : HasAllTouched (held_of l.held) l.ops l.op-index;
  few : len (held_of l.held) ≤ length l.records + 2 * l.op-index;
}
