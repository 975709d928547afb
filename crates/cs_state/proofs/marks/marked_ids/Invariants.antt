use Rattle.std.proofs.Common.{◌≡◌}
use Rattle.cs_state.specs.Shares.{numbers_that_pass, mark_at}
use Rattle.cs_state.proofs.marks.marked_ids.Given as goal

abbrev pub invariant-loop-id : goal.invariant-loop-id
invariant-loop-id l = l.found.items ≡ numbers_that_pass (mark_at l.marks) l.id
