use Rattle.std.proofs.Common.{◌≡◌, ℕ, Some, length, slice_get}
use Rattle.cs_paths.specs.declared.path_order.PathOrder.{PathOrder}
use Rattle.cs_state.specs.declared.kept_ids.KeptIds.{KeptIds}
use Rattle.cs_state.specs.Shares.{AreIds}
use Rattle.cs_state.proofs.shares.ids_of.Given as goal

abbrev pub invariant-loop-order : goal.invariant-loop-order
invariant-loop-order l = record {
  long : length l.ids.items ≡ l.order-index;
  each : (t : ℕ) (kept : KeptIds) → slice_get l.ids.items t ≡ Some kept → (o : PathOrder) → slice_get l.orders t ≡ Some o
      → AreIds l.tables o.places.items kept;
}
