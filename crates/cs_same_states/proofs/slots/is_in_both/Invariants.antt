use Rattle.std.proofs.Common.{◌≡◌, ◌<◌, ℕ, Some}
use Rattle.cs_apm.specs.Slots.{slot_at}
use Rattle.cs_same_states.specs.Slots.{file_in}
use Rattle.cs_same_states.proofs.slots.is_in_both.Given as goal

abbrev pub invariant-loop-place : goal.invariant-loop-place
invariant-loop-place l =
    (r : ℕ) → r < l.place → file_in (slot_at l.slots r) ≡ Some l.file → file_in (slot_at l.others r) ≡ Some l.file → ⊥
