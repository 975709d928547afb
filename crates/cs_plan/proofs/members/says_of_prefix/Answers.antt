use Rattle.std.proofs.Common.{arith, ap, sym, ◌∙◌, ◌≡◌, true, false}
use Rattle.cs_apm.specs.Rules.{op_at}
use Rattle.cs_plan.specs.Plans.{places_below}
use Rattle.cs_plan.specs.Scenes.{is_say, says_of}
use Rattle.cs_plan.proofs.Counting.{first_more}
use Rattle.cs_plan.proofs.members.says_of_prefix.Goals.{then-is_say_at, else-is_say_at}
use Rattle.cs_plan.proofs.members.says_of_prefix.Goals as goal

pub loop-place-preserved : goal.loop-place-preserved
loop-place-preserved c =
    let more = first_more (λ place. is_say (op_at c.args.ops.now place)) c.loop-place.place in
    let before = c.loop-place.invariant in
    elim c.if-is_say_at.branch [
      | then-is_say_at w ↦ (let told = more true (sym c.is_say_at.ensures ∙ w.if-is_say_at.true) in record {
        so_far = omega (arith, told, w.count-is, before.so_far);
        small = omega (arith, w.count-is, before.small);
      })
      | else-is_say_at w ↦ (let untold = more false (sym c.is_say_at.ensures ∙ w.if-is_say_at.false) in record {
        so_far = omega (arith, untold, w.count-is, before.so_far);
        small = omega (arith, w.count-is, before.small);
      })
    ]

pub returns : goal.returns
returns c = let e : c.loop-place.place ≡ c.args.end = omega arith in
    c.loop-place.invariant.so_far ∙ ap (λ place. says_of c.args.ops.now (places_below place)) e
