use Rattle.std.proofs.Common.{◌≡◌}
use Rattle.cs_state.specs.Shares.{numbers_that_pass, is_in_every_state}
use Rattle.cs_state.proofs.marks.kept_of.Given as goal

abbrev pub invariant-loop-id : goal.invariant-loop-id
invariant-loop-id l = l.found.items ≡ numbers_that_pass (is_in_every_state l.marks l.slots) l.id
