use Rattle.std.proofs.Common.{◌≡◌}
use Rattle.cs_script.specs.Scripted.{with_first}
use Rattle.cs_script.proofs.publishing.publish_each.Given as goal

abbrev pub invariant-loop-number : goal.invariant-loop-number
invariant-loop-number l = l.world ≡ with_first l.fn.world l.number
