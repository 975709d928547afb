use Rattle.std.proofs.Common.{◌≡◌, ◌-◌, map}
use Rattle.std.specs.List.{range_with_len}
use Rattle.cs_picks.specs.Losses.{lost_at}
use Rattle.cs_picks.proofs.losses.losses_of.Given as goal

abbrev pub invariant-loop-place : goal.invariant-loop-place
invariant-loop-place l = l.losses.items ≡ map (lost_at l.ops l.syncs (l.end - 1)) (range_with_len 0 l.place)
