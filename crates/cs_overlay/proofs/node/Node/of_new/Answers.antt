use Rattle.std.proofs.Common.{[], refl, sym, ◌∙◌}
use Rattle.cs_overlay.proofs.Filing.{new_directory, new_plain}
use Rattle.cs_overlay.proofs.node.Node.of_new.Goals as goal
use Rattle.cs_overlay.proofs.node.Node.of_new.Goals.{then-is_directory_mode, else-is_directory_mode}

pub returns : goal.returns
returns c = elim c.if-is_directory_mode.branch [
  | then-is_directory_mode w ↦ new_directory c.args.parent c.args.number c.args.name c.args.group c.args.new c.args.stamp.now
      c.in_ok-owner.owner c.in_ok-muid.muid c.in_ok-owner.ensures c.in_ok-muid.ensures
      c.if-is_directory_mode.kind w.new.result w.new.ensures w.kind-is (sym c.is_directory_mode.ensures ∙ w.if-is_directory_mode.true)
  | else-is_directory_mode w ↦ new_plain c.args.parent c.args.number c.args.name c.args.group c.args.new c.args.stamp.now
      c.in_ok-owner.owner c.in_ok-muid.muid c.in_ok-owner.ensures c.in_ok-muid.ensures
      c.if-is_directory_mode.kind w.of_lower-empty.result (w.of_lower-empty.ensures.bytes [] refl) (w.of_lower-empty.ensures.hides [])
      w.kind-is (sym c.is_directory_mode.ensures ∙ w.if-is_directory_mode.false)
]
