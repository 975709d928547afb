use Rattle.std.proofs.Common.{ap, ◌∙◌, length, subst}
use Rattle.std.specs.Arc.{arc_value}
use Rattle.cs_same_states.specs.Firsts.{IsSame}
use Rattle.cs_same_states.proofs.Firsts.{each_more, longer}
use Rattle.cs_same_states.proofs.states.first_same.Goals as goal

pub loop-place-preserved : goal.loop-place-preserved
loop-place-preserved c =
    let firsts = c.loop-place.firsts.items in
    let new = c.push.new.self.items in
    let first = c.in_ok-first.first in
    let count = ap length c.deref-in-loop-place.ensures.value ∙ c.loop-place.invariant.long in
    record {
      long = longer firsts new c.loop-place.place first c.loop-place.invariant.long c.in_ok-push.ensures.items;
      each = each_more (arc_value c.args.scene.now) firsts new c.loop-place.place first c.loop-place.invariant.long
          c.in_ok-push.ensures.items c.loop-place.invariant.each
          (subst (λ k. IsSame (arc_value c.args.scene.now) k first) count c.in_ok-first.ensures);
    }
