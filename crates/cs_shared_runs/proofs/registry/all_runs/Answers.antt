use Rattle.std.proofs.Common.{◌∙◌, ◌++◌, ◌∷◌, [], sym}
use Rattle.cs_shared_runs.proofs.Keyed.{next_key}
use Rattle.cs_shared_runs.proofs.registry.all_runs.Goals as goal

pub loop-place-preserved : goal.loop-place-preserved
loop-place-preserved g c =
    c.in_ok-push.ensures.items
    ∙ ((λ i. c.loop-place.invariant i ++ c.in_ok-run.ensures i ∷ []) ∙ sym
    (next_key c.args.states.now.runs c.loop-place.place c.requires c.held_at.result.now c.held_at.ensures))
