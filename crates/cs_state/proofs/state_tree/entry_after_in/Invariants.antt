use Rattle.std.proofs.Common.{◌≡◌, ℕ, ◌<◌, ◌≤◌, None}
use Rattle.cs_state.specs.States.{number_of_place}
use Rattle.cs_state.proofs.state_tree.entry_after_in.Given as goal

abbrev pub invariant-loop-place : goal.invariant-loop-place
invariant-loop-place l = (k : ℕ) → l.first ≤ k → k < l.place → number_of_place l.state k ≡ None
