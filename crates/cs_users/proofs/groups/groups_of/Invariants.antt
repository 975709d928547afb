use Rattle.cs_users.specs.Kept.{AreGroups}
use Rattle.cs_users.proofs.groups.groups_of.Given as goal

abbrev pub invariant-loop-place : goal.invariant-loop-place
invariant-loop-place l = AreGroups l.rows l.place l.groups.items
