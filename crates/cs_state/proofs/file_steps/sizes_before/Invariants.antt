use Rattle.std.proofs.Common.{◌≡◌, ℕ, ◌<◌, length, get_or}
use Rattle.cs_state.specs.Steps.{size_before}
use Rattle.cs_state.proofs.file_steps.sizes_before.Given as goal

abbrev pub invariant-loop-op : goal.invariant-loop-op
invariant-loop-op l = record {
  size : l.size ≡ size_before l.file l.start l.ops l.op-index;
  long : length l.sizes.items ≡ l.op-index;
  each : (k : ℕ) → k < l.op-index → get_or l.sizes.items k 0 ≡ size_before l.file l.start l.ops k;
}
