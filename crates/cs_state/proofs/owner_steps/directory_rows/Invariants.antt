use Rattle.std.proofs.Common.{◌≡◌, ℕ, ◌<◌, Some}
use Rattle.std.specs.BTreeMap.{get}
use Rattle.std.specs.Ordering.{nat_cmp}
use Rattle.std.specs.Prelude.{IsSome}
use Rattle.cs_apm.specs.Rules.{op_at}
use Rattle.cs_state.specs.Owners.{directory_set, AreDirectoryRows}
use Rattle.cs_state.proofs.owner_steps.directory_rows.Given as goal

abbrev pub invariant-loop-op : goal.invariant-loop-op
invariant-loop-op l = record {
  each : AreDirectoryRows l.ops (get nat_cmp l.rows);
  set : (k : ℕ) → k < l.op-index → (d : ℕ) → directory_set (op_at l.ops k) ≡ Some d → IsSome (get nat_cmp l.rows d);
}
