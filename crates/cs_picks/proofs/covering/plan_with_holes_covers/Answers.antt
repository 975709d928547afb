use Rattle.cs_picks.proofs.Holes.{has_pairs, has_singles}
use Rattle.cs_picks.proofs.covering.plan_with_holes_covers.Goals as goal

pub returns-clause-pairs : goal.returns-clause-pairs
returns-clause-pairs c = λ picks e. has_pairs c.args.order.now c.len.ensures.backward c.args.plan.now picks e

pub returns-clause-singles : goal.returns-clause-singles
returns-clause-singles c = λ picks e. has_singles c.args.order.now c.len.ensures.backward c.args.plan.now picks e
