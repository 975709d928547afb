use Rattle.std.proofs.Common.{ap, ◌∙◌, length}
use Rattle.cs_apm.specs.States.{Content}
use Rattle.cs_state.specs.Steps.{members_in}
use Rattle.cs_state.proofs.Filing.{left_same}
use Rattle.cs_state.proofs.reading.file_size.Goals as goal

pub returns-else-index : goal.returns-else-index
returns-else-index c =
    ap length c.bytes_at_start.ensures
    ∙ ap (λ (f : Content). f.size)
    (left_same c.args.parts.now c.requires.parts c.args.file (members_in c.args.members.now) c.requires.known c.index.result.now
    c.index.ensures c.if-index.false)
