use Rattle.std.proofs.Common.{arith, ap, length, sym, ◌∙◌, ◌<◌, ℕ, Bool}
use Rattle.std.proofs.lemmas.List.{take_all}
use Rattle.std.proofs.lemmas.List.Sums.{count_by_more_no, count_by_more_yes}
use Rattle.cs_apm.specs.Rules.{op_at}
use Rattle.cs_plan.specs.Scenes.{is_say, says_of}
use Rattle.cs_different.proofs.leaving.count_says.Goals.{then-is_say_at, else-is_say_at}
use Rattle.cs_different.proofs.leaving.count_says.Goals as goal

pub loop-place-preserved : goal.loop-place-preserved
loop-place-preserved c =
    let p : ℕ → Bool = λ place. is_say (op_at c.args.ops.now place) in
    let k = c.loop-place.place-index in
    let low : k < length c.args.places.now = omega arith in
    let before = c.loop-place.invariant in
    elim c.if-is_say_at.branch [
      | then-is_say_at w ↦
          (let told = count_by_more_yes p c.args.places.now k 0 low (sym c.is_say_at.ensures ∙ w.if-is_say_at.true) in record {
            so_far = omega (arith, told, w.count-is, before.so_far);
            small = omega (arith, w.count-is, before.small);
          })
      | else-is_say_at w ↦
          (let untold = count_by_more_no p c.args.places.now k 0 low (sym c.is_say_at.ensures ∙ w.if-is_say_at.false) in record {
            so_far = omega (arith, untold, w.count-is, before.so_far);
            small = omega (arith, w.count-is, before.small);
          })
    ]

pub returns : goal.returns
returns c = c.loop-place.invariant.so_far ∙ ap (says_of c.args.ops.now) (take_all c.loop-place.place-index c.args.places.now (omega arith))
