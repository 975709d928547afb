use Rattle.std.proofs.Common.{◌≡◌, true, take}
use Rattle.std.specs.List.{list_all}
use Rattle.cs_sets.specs.Orders.{needs_in}
use Rattle.cs_plan.specs.Plans.{is_kept}
use Rattle.cs_picks.proofs.left.stays.Given as goal

abbrev pub invariant-loop-missing : goal.invariant-loop-missing
invariant-loop-missing l = list_all (λ missing. is_kept (needs_in l.order) missing l.place) (take l.missing-index l.lost) ≡ true
