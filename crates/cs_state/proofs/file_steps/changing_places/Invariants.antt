use Rattle.std.proofs.Common.{◌≡◌}
use Rattle.cs_apm.specs.Contents.{changes_file}
use Rattle.cs_apm.specs.Rules.{op_at}
use Rattle.cs_state.specs.Shares.{numbers_that_pass}
use Rattle.cs_state.proofs.file_steps.changing_places.Given as goal

abbrev pub invariant-loop-place : goal.invariant-loop-place
invariant-loop-place l = l.places.items ≡ numbers_that_pass (λ k. changes_file l.file (op_at l.ops k)) l.place
