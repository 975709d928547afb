use Rattle.std.proofs.Common.{◌≡◌, None, replicate}
use Rattle.cs_registry.proofs.states.no_states.Given as goal

abbrev pub invariant-loop-place : goal.invariant-loop-place
invariant-loop-place l = l.states.items ≡ replicate l._place None
