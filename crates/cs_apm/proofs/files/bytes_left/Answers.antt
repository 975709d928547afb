use Rattle.std.proofs.Common.{◌<◌, ap, ◌∙◌, subst}
use Rattle.cs_apm.specs.States.{visible}
use Rattle.cs_apm.proofs.Before.{left_file}
use Rattle.cs_apm.proofs.files.bytes_left.Goals as goal

pub returns : goal.returns
returns c =
    c.in_ok-bytes.ensures ∙ ap visible
    (c.in_ok-content.ensures ∙ left_file c.args.trace.now c.args.ops.now c.args.places.now c.args.file
    (subst (λ n. c.args.file < n) c.requires.changed.long c.requires.known))
