use Rattle.cs_journal.proofs.Audited.{are_audited}
use Rattle.cs_journal.proofs.laws.entries_are_audited.Goals as goal

pub returns : goal.returns
returns c passes journal distinct entries = are_audited passes journal distinct entries
