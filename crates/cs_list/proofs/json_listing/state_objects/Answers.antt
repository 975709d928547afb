use Rattle.std.proofs.Common.{◌≡◌, length, ap, subst, arith}
use Rattle.cs_list.specs.Listings.{AreStateObjects}
use Rattle.cs_list.proofs.Objects.{no_states, states_more}
use Rattle.cs_list.proofs.json_listing.state_objects.Goals as goal

pub loop-number-init : goal.loop-number-init
loop-number-init c = rw c.new-text.ensures.items (no_states c.args.scene.now c.args.firsts.now)

pub loop-number-preserved : goal.loop-number-preserved
loop-number-preserved c =
    let pushed = c.in_ok-push_state_object.ensures in
    states_more c.args.scene.now c.args.firsts.now c.loop-number.number c.loop-number.text.items c.push_state_object.new.text.items
    pushed.0 c.loop-number.invariant pushed.1 pushed.2

pub returns : goal.returns
returns c =
    let same = ap length c.plan.ensures.value in
    let all : c.loop-number.number ≡ length c.args.scene.now.plan = omega (arith, same) in
    subst (λ n. AreStateObjects c.args.scene.now c.args.firsts.now n c.loop-number.text.items) all c.loop-number.invariant
