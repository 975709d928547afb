use Rattle.std.proofs.Common.{ap}
use Rattle.std.specs.Prelude.{option_map}
use Rattle.cs_journal.proofs.Audits.{other_told}
use Rattle.cs_journal.proofs.auditing.audit_entry.Goals as goal

pub returns-else-is_of : goal.returns-else-is_of
returns-else-is_of c =
    other_told c.args.place c.args.entry.now _ _ _ (ap (option_map (λ r. r.now)) c.in-Some.is) c.is_of.ensures c.if-is_of.false
