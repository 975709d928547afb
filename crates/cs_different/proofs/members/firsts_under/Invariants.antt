use Rattle.std.proofs.Common.{◌≡◌}
use Rattle.std.specs.List.{filter, range_with_len}
use Rattle.cs_apm.specs.Rules.{is_first_half, op_at}
use Rattle.cs_different.proofs.members.firsts_under.Given as goal

abbrev pub invariant-loop-place : goal.invariant-loop-place
invariant-loop-place l = l.firsts.items ≡ filter (λ i. is_first_half (op_at l.ops i)) (range_with_len 0 l.place)
