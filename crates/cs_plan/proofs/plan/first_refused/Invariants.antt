use Rattle.std.proofs.Common.{take}
use Rattle.std.specs.List.{All}
use Rattle.cs_plan.specs.Plans.{IsAllowedIn}
use Rattle.cs_plan.proofs.plan.first_refused.Given as goal

abbrev pub invariant-loop-place : goal.invariant-loop-place
invariant-loop-place l = All (IsAllowedIn l.order) (take l.place l.picks)
