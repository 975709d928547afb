-- A journal that is one entry longer, and what a replay leaves.
use Rattle.std.proofs.Common.{◌≡◌, ◌≢◌, ◌∙◌, ℕ, suc, ◌+◌, ◌-◌, ◌≤◌, Bool, true, false, cond, List, [], ◌∷◌, ◌++◌, length, length-append}
use Rattle.std.proofs.Common.{add-zero, zero-add, Some, refl, sym, ap, subst, arith}
use Rattle.std.proofs.lemmas.Bool.{eq-eqb, ne_eqb}
use Rattle.std.proofs.lemmas.List.{append-nil}
use Rattle.std.proofs.lemmas.List.Elements.{filter-append}
use Rattle.std.specs.Prelude.{filter, if◌then◌else◌, slice_get}
use Rattle.cs_permit.specs.declared.call.OpenFile.{OpenFile}
use Rattle.cs_run.proofs.Ascending.{stays_below}
use Rattle.cs_run.proofs.Versions.{step_raises}
use Rattle.cs_run.specs.Laws.{AllVersBelow}
use Rattle.cs_run.specs.Opens.{AreBelow}
use Rattle.cs_tree_model.specs.Tree.{Tree}
use Rattle.cs_users.specs.Rows.{Row}
use Rattle.cs_journal.specs.declared.counts.PassCounts.{PassCounts}
use Rattle.cs_journal.specs.Holding.{IsHeld}
use Rattle.cs_journal.specs.Journals.{EntryOf, HasRoom, IsLegal, IsOutcome, RunState, apply, entries_of_pass, is_of_pass, replay}
use Rattle.cs_journal.specs.Journals.{rules_view_of, fresh_state, turn_in}
use Rattle.cs_journal.specs.Runs.{ReceiptOf, last_of, receipt_of, receipts_from, receipts_in}

-- ---- one entry more

pub replay-push : (s : RunState) (es : List EntryOf) (e : EntryOf) → replay s (es ++ e ∷ []) ≡ apply (replay s es) e
replay-push s [] e = refl
replay-push s (x ∷ es) e = replay-push (apply s x) es e

pub IsLegal-push : (s : RunState) (es : List EntryOf) (e : EntryOf) → IsLegal s es → IsOutcome (replay s es) e
    → HasRoom (apply (replay s es) e) → IsLegal s (es ++ e ∷ [])
IsLegal-push s [] e legal its room = (its, room, tt)
IsLegal-push s (x ∷ es) e legal its room = (legal.0, legal.1, IsLegal-push (apply s x) es e legal.2 its room)

-- the receipt of an entry, if that is the pass's
abbrev pub own_receipt : ℕ → ℕ → EntryOf → List ReceiptOf
own_receipt pass place e = if is_of_pass pass e then receipt_of place e ∷ [] else []

onto : (b : Bool) (r : ReceiptOf) (rs more : List ReceiptOf)
    → (if b then r ∷ (rs ++ more) else (rs ++ more)) ≡ (if b then r ∷ rs else rs) ++ more
onto true r rs more = refl
onto false r rs more = refl

pub receipts-push : (pass place : ℕ) (es : List EntryOf) (e : EntryOf)
    → receipts_from pass place (es ++ e ∷ []) ≡ receipts_from pass place es ++ own_receipt pass (place + length es) e
receipts-push pass place [] e = ap (λ n. own_receipt pass n e) (sym (add-zero place))
receipts-push pass place (x ∷ es) e =
    let rest : receipts_from pass (place + 1) (es ++ e ∷ []) ≡ receipts_from pass (place + 1) es
    ++ own_receipt pass (place + 1 + length es) e = receipts-push pass (place + 1) es e in
    let same : place + 1 + length es ≡ place + suc (length es) = omega arith in
    ap (λ rs. if is_of_pass pass x then receipt_of place x ∷ rs else rs)
    (rest ∙ ap (λ n. receipts_from pass (place + 1) es ++ own_receipt pass n e) same) ∙ onto (is_of_pass pass x) (receipt_of place x)
    (receipts_from pass (place + 1) es) (own_receipt pass (place + suc (length es)) e)

-- a filter keeps one element more, or none
pub filter-push : {A : Type 0} (f : A → Bool) (xs : List A) (x : A)
    → length (filter f (xs ++ x ∷ [])) ≡ length (filter f xs) + cond (f x) 1 0
filter-push f xs x =
    let one : length (filter f (x ∷ [])) ≡ cond (f x) 1 0 =
    elim (f x) as (λ b. length (cond b (x ∷ []) []) ≡ cond b 1 0) [ true ↦ refl | false ↦ refl ] in
    ap length (filter-append f xs (x ∷ [])) ∙ length-append (filter f xs) (filter f (x ∷ [])) ∙ ap (λ n. length (filter f xs) + n) one

get-pushed : {A : Type 0} (xs : List A) (x : A) → slice_get (xs ++ x ∷ []) (length xs) ≡ Some x
get-pushed [] x = refl
get-pushed (y ∷ xs) x = get-pushed xs x

pub last-push : {A : Type 0} (xs : List A) (x : A) → last_of (xs ++ x ∷ []) ≡ Some x
last-push xs x =
    let n : length (xs ++ x ∷ []) - 1 ≡ length xs = omega (arith, length-append xs (x ∷ [])) in
    ap (slice_get (xs ++ x ∷ [])) n ∙ get-pushed xs x

-- the receipts of an entry's own pass, and of another's
pub own_receipts : (pass : ℕ) (es : List EntryOf) (e : EntryOf) → e.pass ≡ pass
    → receipts_in pass (es ++ e ∷ []) ≡ receipts_in pass es ++ receipt_of (length es) e ∷ []
own_receipts pass es e own =
    receipts-push pass 0 es e ∙ ap (λ b. receipts_in pass es ++ (if b then receipt_of (0 + length es) e ∷ [] else []))
    (eq-eqb e.pass pass own) ∙ ap (λ n. receipts_in pass es ++ receipt_of n e ∷ []) (zero-add (length es))

pub other_receipts : (pass : ℕ) (es : List EntryOf) (e : EntryOf) → e.pass ≢ pass → receipts_in pass (es ++ e ∷ []) ≡ receipts_in pass es
other_receipts pass es e other =
    receipts-push pass 0 es e ∙ ap (λ b. receipts_in pass es ++ (if b then receipt_of (0 + length es) e ∷ [] else []))
    (ne_eqb e.pass pass other) ∙ append-nil (receipts_in pass es)

pub own_entries : (pass : ℕ) (es : List EntryOf) (e : EntryOf) → e.pass ≡ pass
    → length (entries_of_pass pass (es ++ e ∷ [])) ≡ length (entries_of_pass pass es) + 1
own_entries pass es e own =
    filter-push (is_of_pass pass) es e ∙ ap (λ b. length (entries_of_pass pass es) + cond b 1 0) (eq-eqb e.pass pass own)

pub other_entries : (pass : ℕ) (es : List EntryOf) (e : EntryOf) → e.pass ≢ pass
    → length (entries_of_pass pass (es ++ e ∷ [])) ≡ length (entries_of_pass pass es)
other_entries pass es e other =
    filter-push (is_of_pass pass) es e ∙ ap (λ b. length (entries_of_pass pass es) + cond b 1 0) (ne_eqb e.pass pass other) ∙ add-zero
    (length (entries_of_pass pass es))

-- ---- what a replay leaves

pub entries-replay : (s : RunState) (es : List EntryOf) → (replay s es).entries ≡ s.entries + length es
entries-replay s [] = sym (add-zero s.entries)
entries-replay s (e ∷ es) =
    let rest : (replay (apply s e) es).entries ≡ s.entries + 1 + length es = entries-replay (apply s e) es in
    omega (arith, rest)

pub users-replay : (s : RunState) (es : List EntryOf) → (replay s es).users ≡ s.users
users-replay s [] = refl
users-replay s (e ∷ es) = users-replay (apply s e) es

-- no version grows by more than the entries
pub versions-replay : (k : ℕ) (s : RunState) (es : List EntryOf) → AllVersBelow k s.tree → AllVersBelow (k + length es) (replay s es).tree
versions-replay k s [] below = subst (λ n. AllVersBelow n s.tree) (sym (add-zero k)) below
versions-replay k s (e ∷ es) below =
    let raised = step_raises (rules_view_of s) (turn_in s e.pass e.moment) e.call e.outcome in
    let rest : AllVersBelow (k + 1 + length es) (replay (apply s e) es).tree =
    versions-replay (k + 1) (apply s e) es (raised.versions k below) in
    let same : k + 1 + length es ≡ k + suc (length es) = omega arith in
    subst (λ n. AllVersBelow n (replay (apply s e) es).tree) same rest

-- nor does the next number
pub next-replay : (s : RunState) (es : List EntryOf) → (replay s es).tree.next ≤ s.tree.next + length es
next-replay s [] = omega arith
next-replay s (e ∷ es) =
    let raised = step_raises (rules_view_of s) (turn_in s e.pass e.moment) e.call e.outcome in
    let rest : (replay (apply s e) es).tree.next ≤ (apply s e).tree.next + length es = next-replay (apply s e) es in
    omega (arith, raised.next, rest)

-- each open's number is the place of an entry
pub below-replay : (s : RunState) (es : List EntryOf) → AreBelow s.entries s.opens → AreBelow (replay s es).entries (replay s es).opens
below-replay s [] below = below
below-replay s (e ∷ es) below =
    below-replay (apply s e) es (stays_below (rules_view_of s) (turn_in s e.pass e.moment) e.call e.outcome below)

-- what a run holds is the state that its journal gives
pub held_state : (fresh tree : Tree) (us : List Row) (opens : List OpenFile) (journal : List EntryOf) (counts : List PassCounts)
    → IsHeld fresh tree us opens journal counts
    → replay (fresh_state fresh us) journal ≡ record { tree = tree; opens = opens; users = us; entries = length journal }
held_state fresh tree us opens journal counts h =
    let places : (replay (fresh_state fresh us) journal).entries ≡ length journal =
    entries-replay (fresh_state fresh us) journal ∙ zero-add (length journal) in
    let same_users : (replay (fresh_state fresh us) journal).users ≡ us = users-replay (fresh_state fresh us) journal in
    λ i. record { tree = sym h.tree_is i; opens = sym h.opens_are i; users = same_users i; entries = places i }
