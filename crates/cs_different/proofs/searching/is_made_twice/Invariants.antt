use Rattle.std.proofs.Common.{◌≡◌, ◌<◌, ℕ, true}
use Rattle.cs_apm.specs.Rules.{op_at}
use Rattle.cs_different.specs.Wants.{makes}
use Rattle.cs_different.proofs.searching.is_made_twice.Given as goal

abbrev pub invariant-loop-place : goal.invariant-loop-place
invariant-loop-place l = (i : ℕ) → i < l.place → makes l.file (op_at l.ops i) ≡ true → i ≡ l.maker
