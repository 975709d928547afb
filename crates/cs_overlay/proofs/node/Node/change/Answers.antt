use Rattle.std.proofs.Common.{sym, ap, ◌∙◌, subst}
use Rattle.cs_tree_model.specs.Stores.{changed_record}
use Rattle.cs_overlay.specs.Layers.{with_attributes, IsStep}
use Rattle.cs_overlay.proofs.Filing.{sized_step, unsized_step}
use Rattle.cs_overlay.proofs.node.Node.change.Goals as goal
use Rattle.cs_overlay.proofs.node.Node.change.Goals.{in-Some+in_ok-set_length, in_default}

pub returns-clause-ok : goal.returns-clause-ok
returns-clause-ok c = λ low n node file. elim c.match-fields.branch [
  | in-Some+in_ok-set_length w ↦ subst (IsStep low n (changed_record c.args.fields.now c.args.stamp) c.args.self.now)
      (sym (ap (λ m. record c.match-fields.self { metadata = m }) c.set_attributes.ensures
      ∙ ap (λ e. with_attributes e c.args.fields.now.mode c.args.group c.args.fields.now.mtime) w.self-is))
      (sized_step low n c.args.fields.now c.args.stamp c.args.self.now w.in-Some.length w.set_length.new.self c.args.group w.in-Some.is
      c.requires.group (w.in_ok-set_length.ensures.ok low n node))
  | in_default w ↦ subst (IsStep low n (changed_record c.args.fields.now c.args.stamp) c.args.self.now)
      (sym (ap (λ m. record c.match-fields.self { metadata = m }) c.set_attributes.ensures
      ∙ ap (λ e. with_attributes e c.args.fields.now.mode c.args.group c.args.fields.now.mtime) w.self-is))
      (unsized_step low n c.args.fields.now c.args.stamp c.args.self.now c.args.group w.in_default.is c.requires.group)
]
