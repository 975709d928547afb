use Rattle.std.proofs.Common.{◌≡◌, length}
use Rattle.cs_journal.proofs.Audits.{AreFirst}
use Rattle.cs_journal.proofs.auditing.receipts_by_number.Given as goal

abbrev pub invariant-loop-number : goal.invariant-loop-number
invariant-loop-number l = record {
  rests : AreFirst (λ rest. rest.now) l.passes l.all l.number;
  many : length l.all ≡ 64;
}
