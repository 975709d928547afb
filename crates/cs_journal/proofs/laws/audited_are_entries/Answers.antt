use Rattle.cs_journal.proofs.Entries.{are_entries}
use Rattle.cs_journal.proofs.laws.audited_are_entries.Goals as goal

pub returns : goal.returns
returns c passes journal ok = are_entries passes journal ok.0 ok.1
