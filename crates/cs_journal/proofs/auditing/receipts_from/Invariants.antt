use Rattle.std.proofs.Common.{◌≡◌, ℕ, ◌≤◌, drop}
use Rattle.std.specs.List.{find}
use Rattle.cs_journal.specs.Audit.{is_at}
use Rattle.cs_journal.proofs.auditing.receipts_from.Given as goal

abbrev pub invariant-loop-skipped : goal.invariant-loop-skipped
invariant-loop-skipped l = (later : ℕ) → l.place ≤ later → find (is_at later) (drop l.skipped l.receipts) ≡ find (is_at later) l.receipts
