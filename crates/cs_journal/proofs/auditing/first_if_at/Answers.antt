use Rattle.std.proofs.Common.{◌∙◌, sym}
use Rattle.cs_journal.proofs.Audits.{first_is_later}
use Rattle.cs_journal.proofs.auditing.first_if_at.Goals as goal

pub returns-else-place : goal.returns-else-place
returns-else-place c =
    first_is_later c.args.place c.args.receipts.now c.in_ok-receipt.receipt.now c.requires.ascending c.requires.from
    (sym c.in_ok-receipt.ensures.value) (λ same. c.if-place.false (c.place.ensures ∙ same))
