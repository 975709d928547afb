use Rattle.std.proofs.Common.{get_or, sym, ◌∙◌}
use Rattle.std.proofs.lemmas.List.{get_or_read}
use Rattle.std.specs.Prelude.{slice_index_or}
use Rattle.cs_micro.specs.declared.micro_op.MicroOp.TheVariants.{Say}
use Rattle.cs_apm.specs.Owners.{owner_after}
use Rattle.cs_apm.specs.States.{no_rights}
use Rattle.cs_apm.proofs.Owning.{owner_more, owner_none}
use Rattle.cs_apm.proofs.owners.owner_left.Goals as goal

pub loop-place-preserved : goal.loop-place-preserved
loop-place-preserved c =
    let k = c.loop-place.place-index in
    let low = c.loop-place-test.true in
    let made = slice_index_or c.args.owners.now c.args.file no_rights in
    let at = get_or_read c.args.ops.now (get_or c.args.places.now k 0) c.index-ops-place.result (c.requires.inside k 0 low)
    c.index-ops-place.is Say in
    c.owner_after-owner.ensures
    ∙ (λ w. owner_after c.args.file (c.loop-place.invariant w) (at w))
    ∙ sym (owner_more c.args.file made c.args.ops.now c.args.places.now k low)

pub loop-place-init : goal.loop-place-init
loop-place-init c =
    let made = slice_index_or c.args.owners.now c.args.file no_rights in
    get_or_read c.args.owners.now c.args.file c.index-owners-file.result c.requires.known c.index-owners-file.is no_rights
    ∙ owner_none c.args.file made c.args.ops.now c.args.places.now
