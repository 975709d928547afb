use Rattle.std.proofs.Common.{◌≡◌, take}
use Rattle.cs_paths.specs.PathOrders.{marks_by_path}
use Rattle.cs_paths.proofs.path_order.marks_by_path.Given as goal

abbrev pub invariant-loop-place : goal.invariant-loop-place
invariant-loop-place l = l.found.items ≡ marks_by_path (take l.place-index l.places) l.marks
