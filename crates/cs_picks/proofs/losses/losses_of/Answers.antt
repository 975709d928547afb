use Rattle.std.proofs.Common.{◌≡◌, ◌-◌, ◌++◌, ◌∷◌, [], ◌∙◌, sym, ap, arith, rules}
use Rattle.std.proofs.lemmas.List.FromFn.{map-range_with_len_more}
use Rattle.cs_picks.specs.Losses.{lost_at}
use Rattle.cs_picks.proofs.losses.losses_of.Goals as goal

pub loop-place-preserved : goal.loop-place-preserved
loop-place-preserved c =
    let f = lost_at c.args.ops.now c.args.syncs.now (c.args.end - 1) in
    let n = c.loop-place.place in
    let e : c.saturating_sub-last.result ≡ c.args.end - 1 = search rules in
    c.in_ok-push.ensures.items
    ∙ ap (λ x. c.loop-place.losses.items ++ x ∷ []) (c.lost_at.ensures ∙ ap (λ last. lost_at c.args.ops.now c.args.syncs.now last n) e)
    ∙ ap (λ v. v ++ f n ∷ []) c.loop-place.invariant
    ∙ sym (map-range_with_len_more f 0 n n (omega arith))
