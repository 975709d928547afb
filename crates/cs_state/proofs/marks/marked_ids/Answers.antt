use Rattle.std.proofs.Common.{[], ◌∷◌, ◌++◌, cond, sym, ap, ◌∙◌}
use Rattle.cs_state.specs.Shares.{mark_at}
use Rattle.cs_paths.proofs.Listing.{one_more}
use Rattle.cs_state.proofs.marks.marked_ids.Goals as goal

pub loop-id-preserved : goal.loop-id-preserved
loop-id-preserved c =
    let id = c.loop-id.id in
    let f = mark_at c.args.marks.now in
    c.in_ok-push_if.ensures ∙ ap (λ xs. xs ++ cond (f id) (id ∷ []) []) c.loop-id.invariant ∙ sym (one_more f id)
