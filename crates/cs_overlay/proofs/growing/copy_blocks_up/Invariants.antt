use Rattle.std.proofs.Common.{◌≡◌, ◌-◌, ◌≤◌, ℕ}
use Rattle.std.specs.BTreeMap.{get}
use Rattle.std.specs.Ordering.{nat_cmp}
use Rattle.cs_overlay.specs.Patch.{byte_at, lower_bytes, Reaches}
use Rattle.cs_overlay.proofs.growing.copy_blocks_up.Given as goal

-- the blocks reach from the offset to here
abbrev pub invariant-loop-at : goal.invariant-loop-at
invariant-loop-at g l = (l.offset ≤ l.at) × Reaches (get nat_cmp l.blocks) l.offset l.at
    × ((i : ℕ)
    → byte_at (lower_bytes (g.L.TreeRead.tree l.lower) l.number) l.kept (get nat_cmp l.blocks) i
    ≡ byte_at (lower_bytes (g.L.TreeRead.tree l.lower) l.number) l.kept (get nat_cmp l.fn.blocks) i)

abbrev pub decreases-loop-at : goal.decreases-loop-at
decreases-loop-at g l = l.end - l.at
