use Rattle.std.proofs.Common.{◌≡◌, map, take}
use Rattle.cs_apm.specs.Slots.{slot_at}
use Rattle.cs_same_states.proofs.touched.slots_at.Given as goal

abbrev pub invariant-loop-id : goal.invariant-loop-id
invariant-loop-id l = l.found.items ≡ map (slot_at l.slots) (take l.id-index l.ids)
