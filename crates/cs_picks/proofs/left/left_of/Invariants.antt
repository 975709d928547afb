use Rattle.std.proofs.Common.{◌≡◌}
use Rattle.std.specs.List.{filter, range_with_len}
use Rattle.cs_sets.specs.Orders.{needs_in}
use Rattle.cs_picks.specs.Left.{stays}
use Rattle.cs_picks.proofs.left.left_of.Given as goal

abbrev pub invariant-loop-place : goal.invariant-loop-place
invariant-loop-place l = l.left.items ≡ filter (stays (needs_in l.order) l.lost) (range_with_len 0 l.place)
