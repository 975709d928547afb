use Rattle.std.proofs.Common.{◌≤◌, length}
use Rattle.serve_bench.proofs.bare.answer_some.Given as goal

abbrev pub invariant-loop : goal.invariant-loop
invariant-loop l = l.filled ≤ length l.out
