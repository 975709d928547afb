use Rattle.std.proofs.Common.{◌≡◌, take}
use Rattle.cs_paths.specs.PathOrders.{slots_by_path}
use Rattle.cs_paths.proofs.path_order.slots_by_path.Given as goal

abbrev pub invariant-loop-place : goal.invariant-loop-place
invariant-loop-place l = l.found.items ≡ slots_by_path (take l.place-index l.places) l.slots
