use Rattle.std.proofs.Common.{◌≡◌}
use Rattle.cs_entries.specs.Rules.{moves_directory}
use Rattle.cs_apm.specs.Rules.{entry_op_at}
use Rattle.cs_paths.specs.Marks.{numbers_that_pass}
use Rattle.cs_paths.proofs.moves.directory_moves.Given as goal

abbrev pub invariant-loop-place : goal.invariant-loop-place
invariant-loop-place l = l.moves.items ≡ numbers_that_pass (λ k. moves_directory (entry_op_at l.ops k)) l.place
