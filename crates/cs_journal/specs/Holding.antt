-- What a run keeps in addition to its journal is what the journal gives.
use Rattle.std.specs.Prelude.{◌≡◌, ℕ, ◌+◌, ◌≤◌, List, length, None, slice_index_or}
use Rattle.std.specs.Option.{option_map}
use Rattle.cs_names.specs.declared.limits.TheConstants.{JOURNAL_ENTRIES, RUN_ATTACHES}
use Rattle.cs_permit.specs.declared.call.OpenFile.{OpenFile}
use Rattle.cs_tree_model.specs.Tree.{Tree}
use Rattle.cs_users.specs.Rows.{Row}
use Rattle.cs_journal.specs.declared.counts.PassCounts.{PassCounts}
use Rattle.cs_journal.specs.Bounds.{CanGrow}
use Rattle.cs_journal.specs.Journals.{EntryOf, IsLegal, entries_of_pass, replay, fresh_state}
use Rattle.cs_journal.specs.Runs.{last_of, opens_under, receipts_in}

-- of a pass that made no call
abbrev pub no_counts : PassCounts
no_counts = record { entries = 0; opens = 0; last = None }

-- how many entries and opens a pass has, and the place of its last entry
abbrev pub counts_of : ℕ → List OpenFile → List EntryOf → PassCounts
counts_of pass opens journal = record {
  entries = length (entries_of_pass pass journal);
  opens = length (opens_under pass opens);
  last = option_map (λ r. r.place) (last_of (receipts_in pass journal));
}

-- the tree and the opens are the replay's, the journal is legal, and the counts of the passes are
-- the journal's
pub record IsHeld (fresh tree : Tree) (us : List Row) (opens : List OpenFile)
    (journal : List EntryOf) (counts : List PassCounts) : Type 0 where
  pub grows : CanGrow fresh
  pub tree_is : tree ≡ (replay (fresh_state fresh us) journal).tree
  pub opens_are : opens ≡ (replay (fresh_state fresh us) journal).opens
  pub legal : IsLegal (fresh_state fresh us) journal
  pub counted : (pass : ℕ) → slice_index_or counts pass no_counts ≡ counts_of pass opens journal
  pub passes : length counts ≤ RUN_ATTACHES
  pub limit : length journal + length opens ≤ JOURNAL_ENTRIES
