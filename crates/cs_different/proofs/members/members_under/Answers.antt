use Rattle.std.proofs.Common.{rules, ◌↔◌, ◌≡◌, ℕ, List, Bool, sym, length, subst}
use Rattle.cs_apm.specs.Orders.{needs_by, order_by}
use Rattle.cs_trace_lines.specs.Versions.{profile_of}
use Rattle.cs_micro.specs.Micros.{Micros}
use Rattle.cs_plan.specs.Scenes.{micros_of}
use Rattle.cs_sets.specs.Chains.{IsBackward}
use Rattle.cs_sets.specs.Orders.{needs_in}
use Rattle.cs_sets.specs.Sets.{IsAllowed}
use Rattle.cs_different.specs.Members.{AreAll, IsMember, firsts_under, order_under, sets_told, stricter}
use Rattle.cs_different.proofs.ProfileSets.{all_members}
use Rattle.cs_different.proofs.members.members_under.Goals as goal

pub returns-clause-told : goal.returns-clause-told
returns-clause-told c =
    let s = c.args.scene.now in
    let f = c.args.profile in
    let order : c.in_ok-order.order ≡ order_under s f = search rules in
    let told : (p : List ℕ) → IsAllowed (needs_in (order_under s f)) (length (order_under s f)) p
    ↔ IsAllowed (needs_by (micros_of s) (stricter f (profile_of (micros_of s).version))) (length (micros_of s).ops) p =
    subst (λ (m : Micros). (p : List ℕ) → IsAllowed (needs_in (order_by m (stricter f (profile_of m.version))))
    (length (order_by m (stricter f (profile_of m.version)))) p
    ↔ IsAllowed (needs_by m (stricter f (profile_of m.version))) (length m.ops) p) c.micros-micros.ensures
    (c.rules_are_sentences.ensures.sets (stricter f (profile_of c.micros-micros.result.now.version))) in
    let back : IsBackward (needs_in (order_under s f)) =
    subst (λ (o : List (List Bool)). IsBackward (needs_in o)) order c.len.ensures.backward in
    let firsts : c.in_ok-firsts.firsts.items ≡ firsts_under (micros_of s).ops f = search rules in
    subst (AreAll (IsMember s f)) (λ i. sets_told (sym order i) (sym firsts i)) (all_members s f told back)
