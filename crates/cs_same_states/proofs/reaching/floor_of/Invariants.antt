use Rattle.std.proofs.Common.{◌≡◌, fold, take}
use Rattle.cs_trace.specs.declared.limits.TheConstants.{LARGE_FILE_BYTES}
use Rattle.cs_same_states.specs.Reaching.{floor_after}
use Rattle.cs_same_states.proofs.reaching.floor_of.Given as goal

abbrev pub invariant-loop-op : goal.invariant-loop-op
invariant-loop-op l = l.floor ≡ fold (floor_after l.file) LARGE_FILE_BYTES (take l.op-index l.ops)
