use Rattle.std.proofs.Common.{◌≡◌, ◌-◌, ap, ◌∙◌, min}
use Rattle.cs_state.specs.Parts.{file_in}
use Rattle.cs_state.specs.Steps.{members_in}
use Rattle.cs_state.proofs.Showing.{part_read}
use Rattle.cs_state.proofs.reading.changed_bytes.Goals as goal

pub returns-clause-value : goal.returns-clause-value
returns-clause-value c =
    let f = file_in c.args.parts.now (members_in c.args.members.now) c.args.file in
    let size : c.changed_size-size.result ≡ f.size = c.changed_size-size.ensures in
    part_read f c.args.offset c.args.count c.in_ok-bytes.bytes.items
    (c.in_ok-bytes.ensures.long ∙ c.min-count.ensures ∙ ap (λ n. min c.args.count (n - c.args.offset)) size)
    c.in_ok-bytes.ensures.part
