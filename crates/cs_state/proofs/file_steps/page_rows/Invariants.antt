use Rattle.std.proofs.Common.{ℕ, ◌<◌, get_or}
use Rattle.std.specs.BTreeMap.{get}
use Rattle.std.specs.Ordering.{nat_cmp}
use Rattle.cs_apm.specs.Rules.{op_at}
use Rattle.cs_state.specs.Steps.{AreRows, HasRow}
use Rattle.cs_state.proofs.file_steps.page_rows.Given as goal

abbrev pub invariant-loop-place : goal.invariant-loop-place
invariant-loop-place l = record {
  each : AreRows l.sizes l.ops l.places (get nat_cmp l.rows);
  written : (k : ℕ) → k < l.place-index → HasRow (get nat_cmp l.rows) (op_at l.ops (get_or l.places k 0));
}
