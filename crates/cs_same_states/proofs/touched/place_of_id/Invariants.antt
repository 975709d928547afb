use Rattle.std.proofs.Common.{◌≡◌, ◌<◌, ℕ}
use Rattle.cs_same_states.specs.Places.{id_at}
use Rattle.cs_same_states.proofs.touched.place_of_id.Given as goal

abbrev pub invariant-loop-place : goal.invariant-loop-place
invariant-loop-place l = (r : ℕ) → r < l.place → id_at l.ids r ≡ l.id → ⊥
