use Rattle.std.proofs.Common.{◌≡◌, ◌==◌, true, cond, sym, ap, ◌∙◌, subst}
use Rattle.cs_apm.specs.Contents.{changes_file, content_after}
use Rattle.cs_apm.specs.States.{content_with_size}
use Rattle.cs_same_states.specs.Windows.{IsWindow}
use Rattle.cs_same_states.proofs.windows.apply_to_window.Goals as goal

pub returns-in-ChangeFileSize-clause-window : goal.returns-in-ChangeFileSize-clause-window
returns-in-ChangeFileSize-clause-window c = λ f is.
    let to = c.in-ChangeFileSize.length in
    let its : true ≡ (c.in-ChangeFileSize.file == c.args.file) =
    c.if-not-changes_file.ensures ∙ ap (changes_file c.args.file) c.in-ChangeFileSize.is in
    subst (λ o. IsWindow c.args.offset (content_after c.args.file f o) to c.zero_cut.new.part) (sym c.in-ChangeFileSize.is)
    (subst (λ b. IsWindow c.args.offset (cond b (content_with_size to f) f) to c.zero_cut.new.part) its (c.zero_cut.ensures.window f is))
