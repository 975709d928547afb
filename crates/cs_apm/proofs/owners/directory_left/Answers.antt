use Rattle.std.proofs.Common.{get_or, sym, ◌∙◌}
use Rattle.std.proofs.lemmas.List.{get_or_read}
use Rattle.std.specs.Prelude.{slice_index_or}
use Rattle.cs_micro.specs.declared.micro_op.MicroOp.TheVariants.{Say}
use Rattle.cs_apm.specs.Owners.{directory_after}
use Rattle.cs_apm.specs.States.{no_rights}
use Rattle.cs_apm.proofs.Owning.{directory_more, directory_none}
use Rattle.cs_apm.proofs.owners.directory_left.Goals as goal

pub loop-place-preserved : goal.loop-place-preserved
loop-place-preserved c =
    let k = c.loop-place.place-index in
    let low = c.loop-place-test.true in
    let made = slice_index_or c.args.directories.now c.args.directory no_rights in
    let at = get_or_read c.args.ops.now (get_or c.args.places.now k 0) c.index-ops-place.result (c.requires.inside k 0 low)
    c.index-ops-place.is Say in
    c.directory_after-owner.ensures
    ∙ (λ w. directory_after c.args.directory (c.loop-place.invariant w) (at w))
    ∙ sym (directory_more c.args.directory made c.args.ops.now c.args.places.now k low)

pub loop-place-init : goal.loop-place-init
loop-place-init c =
    let made = slice_index_or c.args.directories.now c.args.directory no_rights in
    get_or_read c.args.directories.now c.args.directory c.index-directories-directory.result c.requires.known
    c.index-directories-directory.is no_rights
    ∙ directory_none c.args.directory made c.args.ops.now c.args.places.now
