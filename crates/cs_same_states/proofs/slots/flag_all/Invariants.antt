use Rattle.std.proofs.Common.{◌≡◌, take, fold}
use Rattle.cs_same_states.specs.Slots.{flagged}
use Rattle.cs_same_states.proofs.slots.flag_all.Given as goal

abbrev pub invariant-loop-slot : goal.invariant-loop-slot
invariant-loop-slot l = l.flags ≡ fold flagged l.initial.flags (take l.slot-index l.slots)
