use Rattle.std.proofs.Common.{[], ◌∷◌, ◌++◌, cond, sym, ◌∙◌}
use Rattle.cs_state.specs.Shares.{is_in_every_state}
use Rattle.cs_paths.proofs.Listing.{one_more}
use Rattle.cs_state.proofs.marks.kept_of.Goals as goal

pub loop-id-preserved : goal.loop-id-preserved
loop-id-preserved c =
    let id = c.loop-id.id in
    c.in_ok-push_if.ensures ∙ (λ i. c.loop-id.invariant i ++ cond (c.is_kept_id.ensures i) (id ∷ []) []) ∙ sym
    (one_more (is_in_every_state c.args.marks.now c.args.slots.now) id)
