use Rattle.std.proofs.Common.{refl, ap, ◌∙◌, length}
use Rattle.cs_apm.specs.Contents.{content_left}
use Rattle.cs_apm.proofs.Before.{unflagged}
use Rattle.cs_apm.proofs.files.file_left.Goals.{then-changed-file+in_ok-apply_members, else-changed-file}
use Rattle.cs_apm.proofs.files.file_left.Goals as goal

pub returns : goal.returns
returns c =
    elim c.if-changed-file.branch [
      | then-changed-file+in_ok-apply_members w ↦ w.content-is ∙ w.in_ok-apply_members.ensures ∙ ap
          (λ f. content_left c.args.file f c.args.ops.now c.args.places.now) c.in_ok-content.ensures
      | else-changed-file w ↦ w.content-is ∙ unflagged c.args.file (length c.args.changed.now) c.args.ops.now c.args.changed.now _
          c.in_ok-content.content c.args.places.now c.requires.changed c.requires.known refl w.if-changed-file.false
          ∙ ap (λ f. content_left c.args.file f c.args.ops.now c.args.places.now) c.in_ok-content.ensures
    ]
