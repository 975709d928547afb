use Rattle.std.proofs.Common.{◌<◌, ℕ}
use Rattle.cs_apm.specs.Slots.{slot_at}
use Rattle.cs_same_states.specs.Slots.{AreAlike}
use Rattle.cs_same_states.proofs.slots.are_all_alike.Given as goal

abbrev pub invariant-loop-place : goal.invariant-loop-place
invariant-loop-place l = (r : ℕ) → r < l.place → AreAlike l.pair (slot_at l.slots r) (slot_at l.others r)
