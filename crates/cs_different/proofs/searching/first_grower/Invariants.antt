use Rattle.std.proofs.Common.{◌≡◌, ◌<◌, ℕ, false}
use Rattle.cs_apm.specs.Rules.{op_at}
use Rattle.cs_different.specs.Wants.{grows_above}
use Rattle.cs_different.proofs.searching.first_grower.Given as goal

abbrev pub invariant-loop-place : goal.invariant-loop-place
invariant-loop-place l = (i : ℕ) → i < l.place → grows_above l.file l.offset (op_at l.ops i) ≡ false
