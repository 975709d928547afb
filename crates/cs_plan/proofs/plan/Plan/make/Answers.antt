use Rattle.std.proofs.Common.{subst, sym, length}
use Rattle.std.specs.List.{All}
use Rattle.cs_sets.specs.Orders.{needs_in}
use Rattle.cs_plan.specs.Plans.{IsAllowedIn, IsWithin, set_in}
use Rattle.cs_plan.proofs.Permitted.{all_good, all_within}
use Rattle.cs_plan.proofs.plan.Plan.make.Goals as goal

pub returns-in-Ok-clause-allowed : goal.returns-in-Ok-clause-allowed
returns-in-Ok-clause-allowed c =
    subst (All (λ recipe. IsAllowedIn c.args.order.now (set_in c.args.order.now recipe))) (sym c.in-Ok.ensures)
    (all_good (needs_in c.args.order.now) (length c.args.order.now) c.count_states-count.ensures.backward c.args.holes c.args.picks.items
    (subst (All (IsAllowedIn c.args.order.now)) c.deref.ensures.value c.in-None.ensures))

pub returns-in-Ok-clause-within : goal.returns-in-Ok-clause-within
returns-in-Ok-clause-within c =
    subst (All (IsWithin (length c.args.order.now))) (sym c.in-Ok.ensures)
    (all_within (needs_in c.args.order.now) (length c.args.order.now) c.args.holes c.args.picks.items
    (subst (All (IsAllowedIn c.args.order.now)) c.deref.ensures.value c.in-None.ensures))
