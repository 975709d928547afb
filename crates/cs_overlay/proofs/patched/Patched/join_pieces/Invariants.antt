use Rattle.std.proofs.Common.{◌≡◌, ◌-◌, ◌≤◌, map}
use Rattle.std.specs.List.{range_with_len}
use Rattle.std.specs.BTreeMap.{get}
use Rattle.std.specs.Ordering.{nat_cmp}
use Rattle.cs_overlay.specs.Patch.{shown_byte}
use Rattle.cs_overlay.proofs.patched.Patched.join_pieces.Given as goal

-- the bytes up to here are read
abbrev pub invariant-loop-at : goal.invariant-loop-at
invariant-loop-at l =
    (l.offset ≤ l.at) × (l.at ≤ l.end)
    × (l.out.items ≡ map (shown_byte l.shown l.offset (get nat_cmp l.self.blocks)) (range_with_len l.offset (l.at - l.offset)))

abbrev pub decreases-loop-at : goal.decreases-loop-at
decreases-loop-at l = l.end - l.at
