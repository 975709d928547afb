use Rattle.std.proofs.Common.{◌∷◌, [], ◌++◌, ◌∙◌, ap, subst, sym, length, take, drop}
use Rattle.std.proofs.lemmas.List.{take_more}
use Rattle.cs_apm.specs.Atlases.{AreChanged}
use Rattle.cs_apm.specs.Making.{with_file_marked}
use Rattle.cs_apm.proofs.Marking.{changed_more, length-marked, put_back}
use Rattle.cs_apm.proofs.flags.changed_by.Goals as goal

pub loop-op-preserved : goal.loop-op-preserved
loop-op-preserved c =
    let i = c.loop-op.op-index in
    let o = c.op-item.result in
    let flags = c.loop-op.changed.items in
    let more = take_more c.args.ops.now i o c.loop-op-test.true ∙ ap (λ x. take i c.args.ops.now ++ x ∷ []) (sym c.op-item.is) in
    let new = c.mark_changed.ensures ∙ ap (λ f. with_file_marked f o) c.deref_mut.ensures.value in
    let left = c.mark_changed.new.changed in
    let back = put_back left flags c.loop-op.changed.len (ap length new ∙ length-marked flags o) c.loop-op.changed.ok.0 in
    subst (λ ops. AreChanged ops c.args.count (take c.loop-op.changed.len (left ++ drop (length left) flags)))
    (sym more)
    (subst (AreChanged (take i c.args.ops.now ++ o ∷ []) c.args.count) (sym (back ∙ new))
    (changed_more (take i c.args.ops.now) c.args.count flags o c.loop-op.invariant))
