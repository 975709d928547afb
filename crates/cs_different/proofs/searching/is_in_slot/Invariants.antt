use Rattle.std.proofs.Common.{◌≡◌, false, take}
use Rattle.std.specs.List.{list_any}
use Rattle.cs_different.specs.Wants.{holds}
use Rattle.cs_different.proofs.searching.is_in_slot.Given as goal

abbrev pub invariant-loop-slot : goal.invariant-loop-slot
invariant-loop-slot l = list_any (holds l.file) (take l.slot-index l.slots) ≡ false
