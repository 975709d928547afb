use Rattle.std.proofs.Common.{◌≡◌, ◌-◌, ◌≤◌, ℕ, List, take}
use Rattle.std.specs.Ordering.{nat_cmp}
use Rattle.std.specs.BTreeMap.{get}
use Rattle.cs_overlay.specs.Patch.{byte_at, written_byte, Reaches}
use Rattle.cs_overlay.proofs.writing.write_blocks.Given as goal

-- the bytes before here are written, and the blocks reach to the end
abbrev pub invariant-loop-at : goal.invariant-loop-at
invariant-loop-at l = (l.offset ≤ l.at) × (l.at ≤ l.end) × Reaches (get nat_cmp l.blocks) l.offset l.end
    × ((lower : List ℕ) (kept i : ℕ)
    → byte_at lower kept (get nat_cmp l.blocks) i
    ≡ written_byte l.offset (take (l.at - l.offset) l.bytes) (byte_at lower kept (get nat_cmp l.fn.blocks)) i)

abbrev pub decreases-loop-at : goal.decreases-loop-at
decreases-loop-at l = l.end - l.at
