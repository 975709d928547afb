-- When what a run counts of a pass is what the pass has.
use Rattle.std.specs.Prelude.{◌≡◌, ℕ, List, length, Option, Some, None, option_map, slice_get}
use Rattle.cs_journal.specs.Journals.{EntryOf}
use Rattle.cs_journal.specs.declared.counts.PassCounts.{PassCounts}
use Rattle.cs_journal.specs.Runs.{PassOf, ReceiptOf, last_of, receipt_of}

-- the receipt of the entry at the place, if there are both
abbrev pub receipt_at : List EntryOf → Option ℕ → Option ReceiptOf
receipt_at journal None = None
receipt_at journal (Some place) = option_map (receipt_of place) (slice_get journal place)

-- as many entries and opens are counted as the pass has receipts and reserved places, and its last
-- receipt, if any, is of the entry at the last place
pub record Tallies (counts : PassCounts) (journal : List EntryOf) (pass : PassOf) : Type 0 where
  pub entries : counts.entries ≡ length pass.receipts
  pub opens : counts.opens ≡ pass.reserved
  pub last : last_of pass.receipts ≡ receipt_at journal counts.last
