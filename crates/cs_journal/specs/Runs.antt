-- What contracts see of a run and of a pass.
use Rattle.std.specs.Prelude.{◌≡◌, ℕ, ◌+◌, ◌-◌, ◌<◌, ◌==◌, Bool, List, [], ◌∷◌, length, filter}
use Rattle.std.specs.Prelude.{slice_get, Option, if◌then◌else◌, refl}
use Rattle.std.specs.List.{AllPairs}
use Rattle.std.specs.Coded.{Coded, code_by, coded×, coded_ℕ, coded_list}
use Rattle.cs_permit.specs.declared.call.OpenFile.{OpenFile}
use Rattle.cs_run.specs.declared.answer.Outcome.{Outcome}
use Rattle.cs_tree_model.specs.Tree.{Tree, tree_code}
use Rattle.cs_users.specs.Rows.{Row}
use Rattle.cs_users.specs.contracts.users.Users as users
use Rattle.cs_permit.specs.contracts.call.Call as call
use mir.Syntax.{static}
use Rattle.cs_run.specs.contracts.answer.Outcome as outcome
use Rattle.cs_permit.specs.declared.call.Call.{Call}
use Rattle.cs_journal.specs.Summaries.{without_bytes}
use Rattle.cs_journal.specs.Journals.{EntryOf, RunState, entries_of_pass, is_of_pass, replay}
use Rattle.cs_journal.specs.Journals.{fresh_state}

-- A run: the tree and the users with which it began, its journal, and how many passes it gave. Its
-- state is the journal's replay.
pub record RunOf : Type 0 where
  pub fresh : Tree
  pub users : List Row
  pub journal : List EntryOf
  pub passes : ℕ

abbrev pub entry_code : Coded EntryOf
entry_code =
    code_by (ℕ × (ℕ × (Call × Outcome)))
    (coded× coded_ℕ (coded× coded_ℕ (coded× (call.the_row (record {
      mir = static;
      lft = [];
    })).coded outcome.the_row.coded)))
    (λ e. (e.pass, (e.moment, (e.call, e.outcome))))
    (λ parts. record {
      pass = parts.0;
      moment = parts.1.0;
      call = parts.1.1.0;
      outcome = parts.1.1.1;
    })
    (λ _. refl)

abbrev pub run_code : Coded RunOf
run_code =
    code_by (Tree × (List Row × (List EntryOf × ℕ)))
    (coded× tree_code
    (coded× users.the_row.coded (coded× (coded_list entry_code) coded_ℕ)))
    (λ run. (run.fresh, (run.users, (run.journal, run.passes))))
    (λ parts. record {
      fresh = parts.0;
      users = parts.1.0;
      journal = parts.1.1.0;
      passes = parts.1.1.1;
    })
    (λ _. refl)

-- a run without a call or a pass
abbrev pub fresh_run : Tree → List Row → RunOf
fresh_run t us = record { fresh = t; users = us; journal = []; passes = 0 }

-- a run's first state, and its state
abbrev pub first_state : RunOf → RunState
first_state run = fresh_state run.fresh run.users

abbrev pub state_of : RunOf → RunState
state_of run = replay (first_state run) run.journal

-- a run that gave one more pass
abbrev pub with_pass : RunOf → RunOf
with_pass run = record {
  fresh = run.fresh;
  users = run.users;
  journal = run.journal;
  passes = run.passes + 1;
}

-- What a pass keeps of an entry: its place, its call without the bytes that it writes, and how it
-- ended.
pub record ReceiptOf : Type 0 where
  pub place : ℕ
  pub call : Call
  pub outcome : Outcome

-- the receipt of the entry at a place
abbrev pub receipt_of : ℕ → EntryOf → ReceiptOf
receipt_of place entry = record {
  place = place;
  call = without_bytes entry.call;
  outcome = entry.outcome;
}

-- each receipt has a place after those before it
abbrev pub IsAscending : List ReceiptOf → Type 0
IsAscending receipts = AllPairs (λ one later. one.place < later.place) receipts

-- A pass: its number, its receipts, and for how many closes it has a place.
pub record PassOf : Type 0 where
  pub number : ℕ
  pub receipts : List ReceiptOf
  pub reserved : ℕ

-- a pass under which no call was made
abbrev pub fresh_pass : ℕ → PassOf
fresh_pass number = record { number = number; receipts = []; reserved = 0 }

-- the receipts of a pass's entries, if the first entry has that place
abbrev pub receipts_from : ℕ → ℕ → List EntryOf → List ReceiptOf
receipts_from pass place [] = []
receipts_from pass place (entry ∷ entries) =
    if is_of_pass pass entry
    then receipt_of place entry ∷ receipts_from pass (place + 1) entries
    else receipts_from pass (place + 1) entries

abbrev pub receipts_in : ℕ → List EntryOf → List ReceiptOf
receipts_in pass journal = receipts_from pass 0 journal

-- the opens under a pass
abbrev pub is_under : ℕ → OpenFile → Bool
is_under pass o = o.pass == pass

abbrev pub opens_under : ℕ → List OpenFile → List OpenFile
opens_under pass opens = filter (is_under pass) opens

-- the last of a list, if any
abbrev pub last_of : {A : Type 0} → List A → Option A
last_of xs = slice_get xs (length xs - 1)

-- The run gave the pass; the pass has as many receipts and reserved places as the run has entries
-- and opens of it; its last receipt, if any, is of its last entry.
pub record Fits (run : RunOf) (pass : PassOf) : Type 0 where
  pub known : pass.number < run.passes
  pub entries : length pass.receipts ≡ length (entries_of_pass pass.number run.journal)
  pub opens : pass.reserved ≡ length (opens_under pass.number (state_of run).opens)
  pub last : last_of pass.receipts ≡ last_of (receipts_in pass.number run.journal)
