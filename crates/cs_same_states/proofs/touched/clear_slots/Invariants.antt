use Rattle.std.proofs.Common.{◌≡◌, ◌<◌, ℕ, length}
use Rattle.cs_apm.specs.Slots.{slot_at}
use Rattle.cs_same_states.specs.Places.{id_at}
use Rattle.cs_same_states.proofs.touched.clear_slots.Given as goal

abbrev pub invariant-loop-id : goal.invariant-loop-id
invariant-loop-id l = record {
  long : length l.slots ≡ length l.initial.slots;
  others : (id : ℕ) → ((r : ℕ) → r < l.id-index → id_at l.ids r ≡ id → ⊥) → slot_at l.slots id ≡ slot_at l.initial.slots id;
}
