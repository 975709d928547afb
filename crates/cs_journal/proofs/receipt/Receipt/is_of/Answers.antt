use Rattle.std.proofs.Common.{◌∙◌, [], refl}
use Rattle.cs_journal.proofs.Fitting.{is_receipt_of}
use Rattle.cs_journal.proofs.receipt.Receipt.is_of.Goals as goal

pub returns : goal.returns
returns c =
    is_receipt_of c.args.place _ _ c.args.entry.now c.args.entry.now _ _ _ c.self.view_is refl c.if-self-place.false
    (c.is_same_outcome.ensures.0 c.if-not-is_same_outcome.false ∙ c.outcome.ensures) (c.summary.ensures []) c.summary-2.ensures
    c.are_same.ensures
