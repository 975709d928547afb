use Rattle.std.proofs.Common.{◌≡◌, take, map, fold}
use Rattle.cs_apm.specs.Slots.{slots_after, step_at}
use Rattle.cs_apm.proofs.slot.make_steps.Given as goal

abbrev pub invariant-loop-place : goal.invariant-loop-place
invariant-loop-place l = l.slots ≡ fold slots_after l.initial.slots (map (step_at l.steps) (take l.place-index l.places))
