use Rattle.std.proofs.Common.{◌≤◌}
use Rattle.cs_publish.proofs.publishing_into.publish_made_into.Given as goal

abbrev pub invariant-loop-made : goal.invariant-loop-made
invariant-loop-made g l = l.published ≤ l._made
