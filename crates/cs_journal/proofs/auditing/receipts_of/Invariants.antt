use Rattle.std.proofs.Common.{◌≡◌, drop}
use Rattle.cs_journal.specs.Audit.{receipts_of_pass}
use Rattle.cs_journal.proofs.auditing.receipts_of.Given as goal

abbrev pub invariant-loop-pass : goal.invariant-loop-pass
invariant-loop-pass l = receipts_of_pass (drop l.pass-index l.passes) l.number ≡ receipts_of_pass l.passes l.number
