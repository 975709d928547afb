use Rattle.std.proofs.Common.{◌≡◌, ◌++◌, [], ◌∷◌, cond, sym, ap, ◌∙◌, get_or}
use Rattle.std.proofs.lemmas.List.{get_or_read}
use Rattle.cs_micro.specs.declared.micro_op.MicroOp.TheVariants.{Say}
use Rattle.cs_apm.specs.Rules.{op_at}
use Rattle.cs_state.specs.Steps.{reaches}
use Rattle.cs_state.proofs.Pages.{picked_more}
use Rattle.cs_state.proofs.file_steps.places_reaching.Goals as goal

pub loop-place-preserved : goal.loop-place-preserved
loop-place-preserved c =
    let k = c.loop-place.place-index in
    let low = c.loop-place-test.true in
    let places = c.args.places.now in
    let place = get_or places k 0 in
    let size = get_or c.args.sizes.now place 0 in
    let at = get_or_read c.args.ops.now place c.index-ops-place.result (c.requires.inside k 0 low) c.index-ops-place.is Say in
    let passes : c.reaches.result ≡ reaches c.args.page size (op_at c.args.ops.now place) =
    c.reaches.ensures ∙ ap (reaches c.args.page size) at in
    c.in_ok-push_if.ensures
    ∙ (λ i. c.loop-place.invariant i ++ cond (passes i) (place ∷ []) [])
    ∙ sym (picked_more (λ j. reaches c.args.page (get_or c.args.sizes.now j 0) (op_at c.args.ops.now j)) places k low)
