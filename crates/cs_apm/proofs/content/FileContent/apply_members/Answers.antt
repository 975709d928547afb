use Rattle.std.proofs.Common.{get_or, sym, ◌∙◌}
use Rattle.std.proofs.lemmas.List.{get_or_read}
use Rattle.cs_micro.specs.declared.micro_op.MicroOp.TheVariants.{Say}
use Rattle.cs_apm.proofs.Contents.{content_none, content_changed, content_kept}
use Rattle.cs_apm.proofs.content.FileContent.apply_members.Goals.{then-changes_file+in_ok-apply, else-changes_file}
use Rattle.cs_apm.proofs.content.FileContent.apply_members.Goals as goal

pub loop-place-init : goal.loop-place-init
loop-place-init c = content_none c.args.file c.args.self.now c.args.ops.now c.args.places.now

pub loop-place-preserved : goal.loop-place-preserved
loop-place-preserved c =
    let k = c.loop-place.place-index in
    let low = c.loop-place-test.true in
    let at = get_or_read c.args.ops.now (get_or c.args.places.now k 0) c.index-ops-place.result (c.requires.inside k 0 low)
    c.index-ops-place.is Say in
    elim c.if-changes_file.branch [
      | then-changes_file+in_ok-apply w ↦ content_changed c.args.file c.args.self.now c.args.ops.now c.args.places.now k
          c.if-changes_file.self c.loop-place.self c.index-ops-place.result low at
          (sym c.changes_file.ensures ∙ w.if-changes_file.true) (w.self-is ∙ w.in_ok-apply.ensures) c.loop-place.invariant
      | else-changes_file w ↦ w.self-is ∙ content_kept c.args.file c.args.self.now c.args.ops.now c.args.places.now k c.loop-place.self
          c.index-ops-place.result low at
          (sym c.changes_file.ensures ∙ w.if-changes_file.false) c.loop-place.invariant
    ]
