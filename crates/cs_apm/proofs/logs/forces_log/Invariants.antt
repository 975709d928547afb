use Rattle.std.proofs.Common.{◌≡◌, ◌≤◌, ◌<◌, ℕ, false}
use Rattle.cs_apm.specs.Rules.{has_to_log, op_at}
use Rattle.cs_apm.proofs.logs.forces_log.Given as goal

abbrev pub invariant-loop-place : goal.invariant-loop-place
invariant-loop-place l = (k : ℕ) → l.from ≤ k → k < l.place → has_to_log l.sync.covers (op_at l.ops k) ≡ false
