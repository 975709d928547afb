use Rattle.std.proofs.Common.{ℕ, Bool, ap, cond, ◌∙◌, ◌++◌, ◌∷◌, []}
use Rattle.cs_apm.specs.Rules.{is_first_half, op_at}
use Rattle.cs_different.proofs.Halves.{range_filter}
use Rattle.cs_different.proofs.members.firsts_under.Goals as goal

pub loop-place-preserved : goal.loop-place-preserved
loop-place-preserved c =
    let p : ℕ → Bool = λ i. is_first_half (op_at c.args.ops.now i) in
    let k = c.loop-place.place in
    c.in_ok-add_first.ensures ∙ ap (λ v. v ++ cond (p k) (k ∷ []) []) c.loop-place.invariant ∙ range_filter p k
