use Rattle.std.proofs.Common.{◌≡◌, List, ℕ, Some, sym, ap, ◌∙◌, subst}
use Rattle.std.specs.Arc.{arc_value}
use Rattle.std.specs.Option.{option_map}
use Rattle.cs_apm.specs.States.{crash_state_of}
use Rattle.cs_apm.proofs.Folding.{if_ok}
use Rattle.cs_plan.specs.Scenes.{Scene, micros_of, set_at, state_at}
use Rattle.cs_same_states.proofs.states.are_seen_same.Goals as goal

same_states : (s : Scene) (number other : ℕ) (places others : List ℕ) → set_at s number ≡ Some places → set_at s other ≡ Some others
    → crash_state_of s.trace (micros_of s) places ≡ crash_state_of s.trace (micros_of s) others → state_at s number ≡ state_at s other
same_states s number other places others one two same =
    ap (option_map (crash_state_of s.trace (micros_of s))) one ∙ ap Some same ∙ sym
    (ap (option_map (crash_state_of s.trace (micros_of s))) two)

pub returns : goal.returns
returns c =
    let s = arc_value c.args.scene.now in
    let places = c.in_ok-places.places.items in
    let others = c.in_ok-others.others.items in
    let one = subst (λ v. set_at v c.args.number ≡ Some places) c.deref.ensures c.in_ok-places.ensures.set in
    let two = subst (λ v. set_at v c.args.other ≡ Some others) c.deref-2.ensures c.in_ok-others.ensures.set in
    let scene = c.deref-3.ensures in
    if_ok c.are_seen_equal.result (λ same given equal. same_states s c.args.number c.args.other places others one two (
    sym (λ i. crash_state_of (scene i).trace (micros_of (scene i)) (c.deref-4.ensures.value i))
    ∙ given equal
    ∙ (λ i. crash_state_of (scene i).trace (micros_of (scene i)) (c.deref-5.ensures.value i)))) c.are_seen_equal.ensures
