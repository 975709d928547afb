use Rattle.std.proofs.Common.{List, Bool, subst}
use Rattle.cs_sets.specs.Chains.{IsBackward}
use Rattle.cs_sets.specs.Orders.{needs_in}
use Rattle.cs_picks.proofs.Allowed.{family_good}
use Rattle.cs_picks.proofs.family.write_family.Goals as goal

pub returns-in-Lost-clause-allowed : goal.returns-in-Lost-clause-allowed
returns-in-Lost-clause-allowed g c =
    family_good c.args.scene.now c.args.family
    (subst (λ (order : List (List Bool)). IsBackward (needs_in order)) c.order-order.ensures.value c.len.ensures.backward)

pub returns-in-Files-clause-allowed : goal.returns-in-Files-clause-allowed
returns-in-Files-clause-allowed g c =
    family_good c.args.scene.now c.args.family
    (subst (λ (order : List (List Bool)). IsBackward (needs_in order)) c.order-order.ensures.value c.len.ensures.backward)

pub returns-in_err-write_lost-in-Both-clause-allowed : goal.returns-in_err-write_lost-in-Both-clause-allowed
returns-in_err-write_lost-in-Both-clause-allowed g c =
    family_good c.args.scene.now c.args.family
    (subst (λ (order : List (List Bool)). IsBackward (needs_in order)) c.order-order.ensures.value c.len.ensures.backward)

pub returns-in_ok-write_lost-in-Both-clause-allowed : goal.returns-in_ok-write_lost-in-Both-clause-allowed
returns-in_ok-write_lost-in-Both-clause-allowed g c =
    family_good c.args.scene.now c.args.family
    (subst (λ (order : List (List Bool)). IsBackward (needs_in order)) c.order-order.ensures.value c.len.ensures.backward)
