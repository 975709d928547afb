use Rattle.std.proofs.Common.{◌≡◌, ℕ, Some, length, slice_get}
use Rattle.cs_paths.specs.PathOrders.{IsPathOrder, positions_of}
use Rattle.cs_paths.specs.declared.path_order.PathOrder.{PathOrder}
use Rattle.cs_paths.proofs.path_orders.orders_of.Given as goal

abbrev pub invariant-loop-place : goal.invariant-loop-place
invariant-loop-place l = record {
  long : length l.orders.items ≡ l.place-index;
  at : l.positions.items ≡ positions_of l.ops l.tables l.place-index;
  each : (t : ℕ) (o : PathOrder) → slice_get l.orders.items t ≡ Some o
      → IsPathOrder l.tables.entries.items (length l.tables.directories.items) (positions_of l.ops l.tables t) o;
}
