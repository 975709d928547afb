use Rattle.std.proofs.Common.{ℕ, ◌<◌, List, sym, subst, length, get_or}
use Rattle.cs_apm.specs.States.{Content}
use Rattle.cs_state.specs.Parts.{file_in}
use Rattle.cs_state.specs.Steps.{members_in, row_at, struck_by, AgreeIn}
use Rattle.cs_state.specs.Windows.{whole_content}
use Rattle.cs_state.proofs.Striking.{agrees, inside}
use Rattle.cs_state.proofs.reading.changed_part.Goals as goal

pub part_left-requires-clause-inside : goal.part_left-requires-clause-inside
part_left-requires-clause-inside c = λ page.
    subst (λ (os : List _). (i e : ℕ) → i < length (row_at c.index-steps.result.now page)
    → get_or (row_at c.index-steps.result.now page) i e < length os) (sym c.ops-ops.ensures.value)
    (inside c.args.parts.now c.requires.parts c.args.file c.requires.known c.args.members.now c.requires.set c.index-steps.result.now
    c.index-steps.ensures c.requires.changed page)

pub returns-clause-part : goal.returns-clause-part
returns-clause-part c =
    let parts = c.args.parts.now in
    let left : Content = file_in parts (members_in c.args.members.now) c.args.file in
    c.in_ok-part.ensures.part left (λ page.
    subst (λ (f : Content). AgreeIn page f left)
    (λ i. struck_by (sym c.ops-ops.ensures.value i) c.args.members.now (whole_content (sym c.requires.start i))
    (row_at c.index-steps.result.now page))
    (agrees parts c.requires.parts c.args.file c.requires.known c.args.members.now c.requires.set c.index-steps.result.now
    c.index-steps.ensures c.requires.changed page))
