use Rattle.std.proofs.Common.{◌≡◌, take}
use Rattle.cs_users.proofs.rows.Rows.try_clone.Given as goal

abbrev pub invariant-loop-row : goal.invariant-loop-row
invariant-loop-row l = l.copy ≡ take l.row-index l.row-items
