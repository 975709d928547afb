-- What is kept of a call.
use Rattle.std.specs.Prelude.{◌≡◌, []}
use Rattle.cs_permit.specs.declared.call.Call.{Call}
use Rattle.cs_journal.specs.declared.kept_call.KeptCall.{KeptCall}
use Rattle.cs_journal.specs.Journals.{JournalOf}
use Rattle.cs_journal.specs.Kept.{LiesIn, call_of}
use Rattle.cs_journal.specs.Summaries.{without_bytes}

-- an entry that keeps the call, whose bytes are in the journal, and a receipt that keeps the call
-- without them
pub record KeepsCall (journal : JournalOf) (call : Call) (made : KeptCall × KeptCall)
    : Type 0 where
  pub lies : LiesIn journal.blocks made.0
  pub entry : call_of journal.blocks made.0 ≡ call
  pub receipt : without_bytes (call_of [] made.1) ≡ without_bytes call
