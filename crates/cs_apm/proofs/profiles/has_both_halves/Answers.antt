use Rattle.std.proofs.Common.{◌≡◌, ◌<◌, true, ap, arith, get_or, length, refl, sym, ◌∙◌}
use Rattle.std.proofs.lemmas.Bool.{false≢true}
use Rattle.cs_apm.specs.Rules.{is_first_half, op_at}
use Rattle.cs_apm.proofs.Halving.{all_halves, contains_at, followed, halves_more, next_there}
use Rattle.cs_apm.proofs.profiles.has_both_halves.Goals.{else-is_first_half-via-then-is_first_half+else-not-is_followed, else-is_first_half-via-else-is_first_half}
use Rattle.cs_apm.proofs.profiles.has_both_halves.Goals as goal

pub returns-then-not-is_followed : goal.returns-then-not-is_followed
returns-then-not-is_followed c =
    let places = c.args.places.now in
    let a = c.loop-index.index in
    let low : a < length places = c.loop-index-test.true in
    let half : is_first_half (op_at c.args.ops.now (get_or places a 0)) ≡ true =
    ap is_first_half (sym c.op_at.ensures) ∙ sym c.is_first_half.ensures ∙ c.if-is_first_half.true in (
      (λ no. absurd (false≢true no)),
      (λ h. sym c.if-not-is_followed.true ∙ c.is_followed.ensures.1
          (next_there places c.requires.ascending a low (h (get_or places a 0) (contains_at places a low) half))),
    )

pub loop-index-preserved : goal.loop-index-preserved
loop-index-preserved c =
    let places = c.args.places.now in
    let a = c.loop-index.index in
    halves_more c.args.ops.now places a c.loop-index.invariant
    (elim c.else-is_first_half.branch [
      | else-is_first_half-via-then-is_first_half+else-not-is_followed w ↦ λ half. followed places a
          (w.is_followed.ensures.0 w.if-not-is_followed.false)
      | else-is_first_half-via-else-is_first_half w ↦ λ half. absurd
          (false≢true (sym w.if-is_first_half.false ∙ c.is_first_half.ensures ∙ ap is_first_half c.op_at.ensures ∙ half))
    ])

pub returns : goal.returns
returns c =
    let places = c.args.places.now in (
      (λ yes. all_halves c.args.ops.now places (λ a low half. c.loop-index.invariant a (omega (arith, low)) half)),
      (λ h. refl),
    )
