use Rattle.std.proofs.Common.{◌≡◌}
use Rattle.cs_apm.specs.Rules.{op_at}
use Rattle.cs_state.specs.Owners.{sets_directory}
use Rattle.cs_state.specs.Shares.{numbers_that_pass}
use Rattle.cs_state.proofs.owner_steps.directory_places.Given as goal

abbrev pub invariant-loop-place : goal.invariant-loop-place
invariant-loop-place l = l.places.items ≡ numbers_that_pass (λ k. sets_directory l.directory (op_at l.ops k)) l.place
