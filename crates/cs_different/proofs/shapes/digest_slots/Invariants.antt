use Rattle.std.proofs.Common.{◌≡◌, fold}
use Rattle.std.specs.List.{range_with_len}
use Rattle.cs_apm.specs.Slots.{entry_at, slot_at}
use Rattle.cs_different.specs.Shapes.{with_slot}
use Rattle.cs_different.proofs.shapes.digest_slots.Given as goal

abbrev pub invariant-loop-i : goal.invariant-loop-i
invariant-loop-i l =
    l.digest ≡ fold (λ digest i. with_slot (entry_at l.entries i) (slot_at l.slots i) digest) 0 (range_with_len 0 l.i)
