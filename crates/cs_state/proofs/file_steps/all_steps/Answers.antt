use Rattle.std.proofs.Common.{◌≡◌, ◌+◌, true, Some, sym, ap, ◌∙◌, subst, length}
use Rattle.std.proofs.lemmas.List.{length_push}
use Rattle.std.specs.Prelude.{slice_get}
use Rattle.cs_apm.specs.Atlases.{content_before}
use Rattle.cs_state.specs.Steps.{AreFileSteps}
use Rattle.cs_state.specs.declared.file_steps.FileSteps.{FileSteps}
use Rattle.cs_state.proofs.Pages.{each_more}
use Rattle.cs_state.proofs.file_steps.all_steps.Goals as goal

pub loop-file-preserved : goal.loop-file-preserved
loop-file-preserved c =
    let all = c.loop-file.all.items in
    let one = c.in_ok-steps_of_file.field-0 in
    let pushed = c.in_ok-push.ensures.items in
    let long = c.loop-file.invariant.long in
    record {
      long = ap length pushed ∙ length_push all one ∙ ap (λ n. n + 1) long;
      each = subst
          (λ xs. (file : _) (steps : FileSteps) → slice_get xs file ≡ Some steps
          → slice_get c.args.tables.now.changed.items file ≡ Some true
          → AreFileSteps file (length (content_before c.args.trace.now c.args.ops.now file).bytes) c.args.ops.now steps) (sym pushed)
          (each_more
          (λ file steps. slice_get c.args.tables.now.changed.items file ≡ Some true
          → AreFileSteps file (length (content_before c.args.trace.now c.args.ops.now file).bytes) c.args.ops.now steps) all one
          c.loop-file.invariant.each
          (subst (λ file. slice_get c.args.tables.now.changed.items file ≡ Some true
          → AreFileSteps file (length (content_before c.args.trace.now c.args.ops.now file).bytes) c.args.ops.now one) (sym long)
          c.in_ok-steps_of_file.ensures));
    }
