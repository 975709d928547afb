-- When the receipts of some passes are the entries of a journal, and the answer to an entry's call.
use Rattle.std.specs.Prelude.{◌≡◌, ◌≢◌, ℕ, ◌+◌, ◌<◌, ◌≤◌, ◌==◌, Bool, List, [], ◌∷◌, length, map}
use Rattle.std.specs.Prelude.{option_map, slice_get, sum_by, take, Option, None, Some, Result, Ok}
use Rattle.std.specs.Prelude.{Err}
use Rattle.std.specs.List.{AllPairs, find, flat_map}
use Rattle.std.specs.List.Sorted.{IsPermutation}
use Rattle.std.specs.Option.{option_map_or}
use Rattle.cs_run.specs.declared.answer.Answer.{Answer}
use Rattle.cs_journal.specs.declared.auditing.AuditFault.{AuditFault}
use Rattle.cs_journal.specs.declared.auditing.AuditFault.TheVariants.{Count, Missing, Changed}
use Rattle.cs_journal.specs.Journals.{EntryOf, RunState, answer_to, replay}
use Rattle.cs_journal.specs.Runs.{IsAscending, PassOf, ReceiptOf, RunOf, first_state, receipt_of}

-- the pass has the number
abbrev pub is_numbered : ℕ → PassOf → Bool
is_numbered number p = p.number == number

-- the receipt has the place
abbrev pub is_at : ℕ → ReceiptOf → Bool
is_at place r = r.place == place

-- the receipts of the first pass that is given with a number; none if none is
abbrev pub receipts_of_pass : List PassOf → ℕ → List ReceiptOf
receipts_of_pass passes number =
    option_map_or (λ p. p.receipts) (find (is_numbered number) passes) []

-- the one of these receipts that has the entry's place, if there is one
abbrev pub receipt_for : List PassOf → ℕ → EntryOf → Option ReceiptOf
receipt_for passes place e = find (is_at place) (receipts_of_pass passes e.pass)

-- how many receipts the passes have together
abbrev pub receipts_count : List PassOf → ℕ
receipts_count passes = sum_by (λ p. length p.receipts) passes

-- in both lists the same receipt is found for each place from `place` on
abbrev pub FindSame : ℕ → List ReceiptOf → List ReceiptOf → Type 0
FindSame place rest all =
    (later : ℕ) → place ≤ later → find (is_at later) rest ≡ find (is_at later) all

-- The receipts of the first pass of a number, without some whose places are before `place`. They
-- ascend.
pub record IsRest (passes : List PassOf) (number place : ℕ) (rest : List ReceiptOf) : Type 0 where
  pub same : FindSame place rest (receipts_of_pass passes number)
  pub ascending : IsAscending rest

-- such receipts for each number of a pass
abbrev pub AreRests : {A : Type 0} → (A → List ReceiptOf) → List PassOf → List A → ℕ → Type 0
AreRests {A} now passes rests place =
    (number : ℕ) (rest : A) → slice_get rests number ≡ Some rest
    → IsRest passes number place (now rest)

-- each entry before the place has its own receipt
abbrev pub HaveReceipts : List PassOf → List EntryOf → ℕ → Type 0
HaveReceipts passes journal k =
    (place : ℕ) → place < k → (e : EntryOf) → slice_get journal place ≡ Some e
    → receipt_for passes place e ≡ Some (receipt_of place e)

-- The entry at the place is the first without its own receipt: it has none.
pub record IsMissing (passes : List PassOf) (journal : List EntryOf) (place : ℕ) : Type 0 where
  pub entry : EntryOf
  pub there : slice_get journal place ≡ Some entry
  pub none : receipt_for passes place entry ≡ None
  pub before : HaveReceipts passes journal place

-- The entry at the place is the first without its own receipt: it has another.
pub record IsChanged (passes : List PassOf) (journal : List EntryOf) (place : ℕ) : Type 0 where
  pub entry : EntryOf
  pub receipt : ReceiptOf
  pub there : slice_get journal place ≡ Some entry
  pub other : receipt_for passes place entry ≡ Some receipt
  pub differs : receipt ≢ receipt_of place entry
  pub before : HaveReceipts passes journal place

-- what an audit reports of the receipt that it found for an entry's place, if any
abbrev pub TellsOf : Option ReceiptOf → ℕ → EntryOf → Result (Unit {0}) AuditFault → Type 0
TellsOf receipt place e (Ok x) = receipt ≡ Some (receipt_of place e)
TellsOf receipt place e (Err Count) = ⊥
TellsOf receipt place e (Err (Missing k)) = (k ≡ place) × (receipt ≡ None)
TellsOf receipt place e (Err (Changed k)) =
    (k ≡ place) × ((r : ReceiptOf) × (receipt ≡ Some r) × (r ≢ receipt_of place e))

-- what an audit reports of the entries, if there are as many receipts
abbrev pub IsAudit : List PassOf → List EntryOf → Result (Unit {0}) AuditFault → Type 0
IsAudit passes journal (Ok x) = HaveReceipts passes journal (length journal)
IsAudit passes journal (Err Count) = ⊥
IsAudit passes journal (Err (Missing place)) = IsMissing passes journal place
IsAudit passes journal (Err (Changed place)) = IsChanged passes journal place

-- there are as many receipts as entries
abbrev pub AreAsMany : List PassOf → List EntryOf → Type 0
AreAsMany passes journal = receipts_count passes ≡ length journal

-- what an audit reports: the counts are compared first
abbrev pub Audits : List PassOf → List EntryOf → Result (Unit {0}) AuditFault → Type 0
Audits passes journal (Ok x) = AreAsMany passes journal × IsAudit passes journal (Ok x)
Audits passes journal (Err Count) = ¬ AreAsMany passes journal
Audits passes journal (Err (Missing k)) =
    AreAsMany passes journal × IsAudit passes journal (Err (Missing k))
Audits passes journal (Err (Changed k)) =
    AreAsMany passes journal × IsAudit passes journal (Err (Changed k))

-- the audit is ok
abbrev pub IsAudited : List PassOf → List EntryOf → Type 0
IsAudited passes journal = Audits passes journal (Ok tt)

-- ---- what it means that an audit is ok

-- all receipts of the passes, each with its pass's number
abbrev pub all_receipts : List PassOf → List (ℕ × ReceiptOf)
all_receipts passes = flat_map (λ p. map (λ r. (p.number, r)) p.receipts) passes

-- the receipts of all entries, each with its pass's number, if the first entry has that place
abbrev pub all_entries_from : ℕ → List EntryOf → List (ℕ × ReceiptOf)
all_entries_from place [] = []
all_entries_from place (e ∷ es) = (e.pass, receipt_of place e) ∷ all_entries_from (place + 1) es

-- the receipts of the passes are the entries, each once
abbrev pub AreEntries : List PassOf → List EntryOf → Type 0
AreEntries passes journal = IsPermutation (all_receipts passes) (all_entries_from 0 journal)

-- no two passes have the same number
abbrev pub HaveDistinctNumbers : List PassOf → Type 0
HaveDistinctNumbers passes = AllPairs (λ one later. one.number ≢ later.number) passes

-- ---- the answer to an entry's call

-- the answer to the call of the entry at a place of a journal from that state, if there is one
abbrev pub answer_at : RunState → List EntryOf → ℕ → Option Answer
answer_at state journal place =
    option_map (answer_to (replay state (take place journal))) (slice_get journal place)

-- the answer to the call of the entry at a place of a run's journal, if there is one
abbrev pub answer_in : RunOf → ℕ → Option Answer
answer_in r place = answer_at (first_state r) r.journal place
