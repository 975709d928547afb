-- A run's state, and how the entries of a journal change it.
use Rattle.std.specs.Prelude.{◌≡◌, ℕ, ◌+◌, ◌≤◌, ◌==◌, Bool, List, [], ◌∷◌, length, filter}
use Rattle.cs_names.specs.declared.limits.TheConstants.{JOURNAL_ENTRIES}
use Rattle.cs_permit.specs.Calls.{RulesView, rules_view}
use Rattle.cs_permit.specs.declared.call.Call.{Call}
use Rattle.cs_permit.specs.declared.call.OpenFile.{OpenFile}
use Rattle.cs_run.specs.declared.answer.Answer.{Answer}
use Rattle.cs_run.specs.declared.answer.Outcome.{Outcome}
use Rattle.cs_run.specs.declared.turn.Turn.{Turn}
use Rattle.cs_run.specs.Effects.{CallResult}
use Rattle.cs_run.specs.Marks.{CallMark}
use Rattle.cs_run.specs.Outcomes.{result_by_outcome, outcome}
use Rattle.cs_tree_model.specs.Tree.{Tree}
use Rattle.cs_users.specs.Rows.{Row}

-- What a journal keeps of a call: its pass, its moment, the call with the bytes that it writes, and
-- how it ended.
pub record EntryOf : Type 0 where
  pub pass : ℕ
  pub moment : ℕ
  pub call : Call
  pub outcome : Outcome

-- A journal in memory: its entries, for how many there is room, and, block after block, the bytes
-- that its calls write.
pub record JournalOf : Type 0 where
  pub items : List EntryOf
  pub capacity : ℕ
  pub blocks : List (List ℕ)

-- A run's state: its tree, its opens, the users, and how many entries there are.
pub record RunState : Type 0 where
  pub tree : Tree
  pub opens : List OpenFile
  pub users : List Row
  pub entries : ℕ

-- the state of this tree, these opens, these users and so many entries
abbrev pub run_state : Tree → List OpenFile → List Row → ℕ → RunState
run_state t os us n = record { tree = t; opens = os; users = us; entries = n }

-- the state of a run without a call
abbrev pub fresh_state : Tree → List Row → RunState
fresh_state t us = record { tree = t; opens = []; users = us; entries = 0 }

-- what the rules look at
abbrev pub rules_view_of : RunState → RulesView
rules_view_of state = rules_view state.tree state.opens state.users

-- the turn of the next call: its place is how many entries are before it
abbrev pub turn_in : RunState → ℕ → ℕ → Turn
turn_in state pass moment = record { moment = moment; place = state.entries; pass = pass }

-- what an entry's call leaves, by its outcome
abbrev pub left_by : RunState → EntryOf → CallResult
left_by state entry =
    result_by_outcome (rules_view_of state) (turn_in state entry.pass entry.moment) entry.call
    entry.outcome

-- the answer to an entry's call
abbrev pub answer_to : RunState → EntryOf → Answer
answer_to state entry = (left_by state entry).answer

-- the state after an entry
abbrev pub apply : RunState → EntryOf → RunState
apply state entry = record {
  tree = (left_by state entry).tree;
  opens = (left_by state entry).opens;
  users = state.users;
  entries = state.entries + 1;
}

-- the state after the entries of a journal, one after the other
abbrev pub replay : RunState → List EntryOf → RunState
replay state [] = state
replay state (entry ∷ entries) = replay (apply state entry) entries

-- the outcome is the one of the entry's place: the first rule that fails denies the call; else it
-- is granted, or short if it takes memory
abbrev pub IsOutcome : RunState → EntryOf → Type 0
IsOutcome state entry = (mark : CallMark)
    × (entry.outcome
    ≡ outcome (rules_view_of state) (turn_in state entry.pass entry.moment) entry.call mark)

-- there is room for the entries, and for that of each open's close
abbrev pub HasRoom : RunState → Type 0
HasRoom state = state.entries + length state.opens ≤ JOURNAL_ENTRIES

-- a legal journal: each outcome is the one of its place, and there is always that room
abbrev pub IsLegal : RunState → List EntryOf → Type 0
IsLegal state [] = Unit {0}
IsLegal state (entry ∷ entries) =
    IsOutcome state entry × HasRoom (apply state entry) × IsLegal (apply state entry) entries

-- the entry carries the pass's number
abbrev pub is_of_pass : ℕ → EntryOf → Bool
is_of_pass pass entry = entry.pass == pass

-- the pass's entries, in order
abbrev pub entries_of_pass : ℕ → List EntryOf → List EntryOf
entries_of_pass pass journal = filter (is_of_pass pass) journal
