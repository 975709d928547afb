use Rattle.std.proofs.Common.{ℕ, ◌<◌}
use Rattle.std.specs.BTreeMap.{get}
use Rattle.std.specs.Ordering.{nat_cmp}
use Rattle.cs_apm.specs.Rules.{op_at}
use Rattle.cs_state.specs.Owners.{AreRightsRows, HasRightsRow}
use Rattle.cs_state.proofs.owner_steps.file_rows.Given as goal

abbrev pub invariant-loop-op : goal.invariant-loop-op
invariant-loop-op l = record {
  each : AreRightsRows l.ops (get nat_cmp l.rows);
  set : (k : ℕ) → k < l.op-index → HasRightsRow (get nat_cmp l.rows) (op_at l.ops k);
}
