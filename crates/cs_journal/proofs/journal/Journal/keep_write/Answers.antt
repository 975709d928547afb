use Rattle.std.proofs.Common.{◌∙◌, ap}
use Rattle.cs_journal.proofs.Blocks.{entries_stay}
use Rattle.cs_journal.specs.Journals.{JournalOf}
use Rattle.cs_journal.proofs.journal.Journal.keep_write.Goals as goal

pub returns-in_err-piece-clause-items : goal.returns-in_err-piece-clause-items
returns-in_err-piece-clause-items c =
    entries_stay c.self.inside.written c.push_bytes.new.self c.push_bytes.ensures.kept c.self.inside.entries.items c.self.invariant ∙ ap
    (λ (j : JournalOf). j.items) c.self.view_is

pub returns-clause-items : goal.returns-clause-items
returns-clause-items c =
    entries_stay c.self.inside.written c.push_bytes.new.self c.push_bytes.ensures.kept c.self.inside.entries.items c.self.invariant ∙ ap
    (λ (j : JournalOf). j.items) c.self.view_is
