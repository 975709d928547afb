use Rattle.std.proofs.Common.{◌<◌, ◌++◌, ◌∷◌, [], ◌∙◌, ap, arith, length, subst, sym, List, ℕ}
use Rattle.std.proofs.lemmas.List.Elements.{All-push}
use Rattle.std.specs.List.{All}
use Rattle.cs_plan.proofs.Listed.{kept_more, kept_same}
use Rattle.cs_picks.specs.Left.{loses_at}
use Rattle.cs_picks.proofs.left.lost_places.Goals.{then-loses_at+in_ok-push, else-loses_at}
use Rattle.cs_picks.proofs.left.lost_places.Goals as goal

pub loop-place-preserved : goal.loop-place-preserved
loop-place-preserved c =
    let p = loses_at c.args.losses.now c.args.file in
    let k = c.loop-place.place in
    let low : k < length c.args.losses.now = omega arith in
    let inside = λ (place : ℕ). place < length c.args.losses.now in
    elim c.if-loses_at.branch [
      | then-loses_at+in_ok-push w ↦ (let items = ap (λ r. r.items) w.lost-is ∙ w.in_ok-push.ensures.items in record {
        so_far = items ∙ ap (λ v. v ++ k ∷ []) c.loop-place.invariant.so_far ∙ sym
            (kept_more p k (sym c.loses_at.ensures ∙ w.if-loses_at.true));
        inside = subst (λ (v : List ℕ). All inside v) (sym items)
            (All-push inside c.loop-place.lost.items k c.loop-place.invariant.inside low);
      })
      | else-loses_at w ↦ (let items = ap (λ r. r.items) w.lost-is in record {
        so_far = items ∙ c.loop-place.invariant.so_far ∙ sym (kept_same p k (sym c.loses_at.ensures ∙ w.if-loses_at.false));
        inside = subst (λ (v : List ℕ). All inside v) (sym items) c.loop-place.invariant.inside;
      })
    ]
