use Rattle.std.proofs.Common.{sym, subst}
use Rattle.std.specs.FinMap.{empty}
use Rattle.cs_trace.specs.Homes.{AreFirst, homes_in}
use Rattle.cs_trace.proofs.Homed.{first_empty}
use Rattle.cs_trace.proofs.homes.Homes.new.Goals as goal

pub invariant_of-result : goal.invariant_of-result
invariant_of-result c =
    subst (λ t. AreFirst t (homes_in c.new.result.items)) (sym c.new-2.ensures)
    (subst (λ hs. AreFirst empty (homes_in hs)) (sym c.new.ensures.items) first_empty)
