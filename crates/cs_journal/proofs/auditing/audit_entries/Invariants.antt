use Rattle.std.proofs.Common.{◌≡◌, length}
use Rattle.cs_journal.specs.Audit.{AreRests, HaveReceipts}
use Rattle.cs_journal.proofs.auditing.audit_entries.Given as goal

abbrev pub invariant-loop-place : goal.invariant-loop-place
invariant-loop-place l = record {
  told : HaveReceipts l.passes l.journal.items l.place;
  rests : AreRests (λ rest. rest.now) l.passes l.rests l.place;
  many : length l.rests ≡ 64;
}
