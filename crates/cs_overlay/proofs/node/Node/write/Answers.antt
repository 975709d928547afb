use Rattle.std.proofs.Common.{sym, ap, ◌∙◌, subst}
use Rattle.cs_tree_model.specs.Stores.{stamped_write}
use Rattle.cs_tree_model.specs.Tree.{content_numbered}
use Rattle.cs_overlay.specs.Layers.{content_over, with_stamp, IsStep}
use Rattle.cs_overlay.proofs.Filing.{unwritten_step, written_step}
use Rattle.cs_overlay.proofs.node.Node.write.Goals as goal
use Rattle.cs_overlay.proofs.node.Node.write.Goals.{in-File+in_ok-write_at, in_default}

pub returns-clause-ok : goal.returns-clause-ok
returns-clause-ok g c =
    let low = content_numbered (g.L.TreeRead.tree c.args.lower.now) c.args.number in
    elim c.match-self.branch [
      | in-File+in_ok-write_at w ↦ subst
          (IsStep low c.args.number (stamped_write c.args.offset c.args.bytes.now c.args.stamp) c.args.self.now)
          (sym (ap (λ m. record c.match-self.self { metadata = m }) c.stamp.ensures
          ∙ ap (λ e. with_stamp e c.args.stamp) w.self-is))
          (written_step low c.args.number c.args.self.now c.args.offset c.args.bytes.now c.args.stamp w.in-File.file w.write_at.new.self
          w.in-File.is w.in_ok-write_at.ensures.hides w.in_ok-write_at.ensures.ok)
      | in_default w ↦ subst (IsStep low c.args.number (stamped_write c.args.offset c.args.bytes.now c.args.stamp) c.args.self.now)
          (sym (ap (λ m. record c.match-self.self { metadata = m }) c.stamp.ensures
          ∙ ap (λ e. with_stamp e c.args.stamp) w.self-is))
          (unwritten_step low c.args.number c.args.self.now c.args.offset c.args.bytes.now c.args.stamp
          (ap (content_over low) w.in_default.is))
    ]
