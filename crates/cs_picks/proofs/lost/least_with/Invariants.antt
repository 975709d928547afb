use Rattle.std.proofs.Common.{◌≡◌}
use Rattle.std.specs.List.{filter, range_with_len}
use Rattle.cs_sets.specs.Orders.{needs_in}
use Rattle.cs_picks.specs.Families.{is_needed}
use Rattle.cs_picks.proofs.lost.least_with.Given as goal

abbrev pub invariant-loop-needed : goal.invariant-loop-needed
invariant-loop-needed l = l.set.items ≡ filter (is_needed (needs_in l.order) l.place) (range_with_len 0 l.needed)
