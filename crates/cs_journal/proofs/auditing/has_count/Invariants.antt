use Rattle.std.proofs.Common.{◌≡◌, ◌≤◌, take}
use Rattle.cs_journal.specs.Audit.{receipts_count}
use Rattle.cs_journal.proofs.auditing.has_count.Given as goal

abbrev pub invariant-loop-pass : goal.invariant-loop-pass
invariant-loop-pass l = record {
  so_far : l.total ≡ receipts_count (take l.pass-index l.passes);
  few : l.total ≤ l.entries;
}
