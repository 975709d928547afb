-- Which passes fit a run, and which after an entry.
use Rattle.std.proofs.Common.{◌≡◌, ◌≢◌, ◌∙◌, ◌↔◌, ℕ, ◌+◌, ◌<◌, Bool, true, List, [], ◌∷◌, length, length-append, Some, sym, ap}
use Rattle.std.proofs.lemmas.Option.{get_or_from_slice_get, slice_get_within}
use Rattle.std.specs.Prelude.{slice_get}
use Rattle.cs_permit.specs.declared.call.Call.{Call}
use Rattle.cs_permit.specs.declared.call.OpenFile.{OpenFile}
use Rattle.cs_tree_model.specs.Tree.{Tree}
use Rattle.cs_users.specs.Rows.{Row}
use Rattle.cs_journal.proofs.Journals.{last-push, other_entries, other_receipts, own_entries, own_receipts, replay-push}
use Rattle.cs_journal.proofs.Last.{told_by_place}
use Rattle.cs_journal.specs.declared.counts.PassCounts.{PassCounts}
use Rattle.cs_journal.specs.Summaries.{without_bytes}
use Rattle.cs_journal.specs.Fitting.{Tallies, receipt_at}
use Rattle.cs_journal.specs.Holding.{IsHeld, counts_of, no_counts}
use Rattle.cs_journal.specs.Journals.{EntryOf, RunState, apply, entries_of_pass}
use Rattle.cs_journal.specs.Runs.{Fits, PassOf, ReceiptOf, RunOf, first_state, last_of, opens_under, receipt_of, receipts_in, state_of}
use Rattle.cs_journal.specs.Steps.{run_with_entry, pass_with_receipt}

-- what a run counts of a pass
record Counted (r : RunOf) (p : PassOf) (k : PassCounts) : Type 0 where
  known : p.number < r.passes
  entries : k.entries ≡ length (entries_of_pass p.number r.journal)
  opens : k.opens ≡ length (opens_under p.number (state_of r).opens)
  last : receipt_at r.journal k.last ≡ last_of (receipts_in p.number r.journal)

counted_in : (fresh tree : Tree) (us : List Row) (opens : List OpenFile) (journal : List EntryOf) (counts : List PassCounts)
    → IsHeld fresh tree us opens journal counts → (p : PassOf) (k : PassCounts) → slice_get counts p.number ≡ Some k
    → Counted (record { fresh = fresh; users = us; journal = journal; passes = length counts }) p k
counted_in fresh tree us opens journal counts h p k there =
    let its : k ≡ counts_of p.number opens journal = sym (get_or_from_slice_get counts p.number k no_counts there) ∙ h.counted p.number in
    record {
      known = slice_get_within counts p.number k there;
      entries = ap (λ (x : PassCounts). x.entries) its;
      opens = ap (λ (x : PassCounts). x.opens) its ∙ ap (λ os. length (opens_under p.number os)) h.opens_are;
      last = ap (λ (x : PassCounts). receipt_at journal x.last) its ∙ told_by_place p.number journal;
    }

-- the counts and the last receipt decide whether a pass fits
pub fits_where_counted : (fresh tree : Tree) (us : List Row) (opens : List OpenFile) (journal : List EntryOf) (counts : List PassCounts)
    → IsHeld fresh tree us opens journal counts → (p : PassOf) (k : PassCounts) → slice_get counts p.number ≡ Some k
    → Tallies k journal p ↔ Fits (record { fresh = fresh; users = us; journal = journal; passes = length counts }) p
fits_where_counted fresh tree us opens journal counts h p k there =
    let c = counted_in fresh tree us opens journal counts h p k there in (
      λ t. record { known = c.known; entries = sym t.entries ∙ c.entries; opens = sym t.opens ∙ c.opens; last = t.last ∙ c.last },
      λ f. record { entries = c.entries ∙ sym f.entries; opens = c.opens ∙ sym f.opens; last = f.last ∙ sym c.last },
    )

-- a receipt is of an entry if place, outcome and the call without its bytes are the entry's
pub is_receipt_of : (place : ℕ) (r s : ReceiptOf) (e d : EntryOf) (x y : Call) (b : Bool) → s ≡ r → d ≡ e → s.place ≡ place
    → s.outcome ≡ d.outcome → x ≡ s.call → y ≡ without_bytes d.call → ((b ≡ true) ↔ (x ≡ y)) → (b ≡ true) ↔ (r ≡ receipt_of place e)
is_receipt_of place r s e d x y b sr de at ends xs ys same =
    let told : x ≡ y → s ≡ receipt_of place d = λ both i. record { place = at i; call = (sym xs ∙ both ∙ ys) i; outcome = ends i } in (
      λ yes. sym sr ∙ told (same.0 yes) ∙ ap (receipt_of place) de,
      λ its. same.1 (xs ∙ ap (λ (t : ReceiptOf). t.call) (sr ∙ its ∙ sym (ap (receipt_of place) de)) ∙ sym ys),
    )

-- ---- after an entry

pub state_entered : (r : RunOf) (e : EntryOf) → state_of (run_with_entry r e) ≡ apply (state_of r) e
state_entered r e = replay-push (first_state r) r.journal e

-- the pass of the entry
pub own_fits : (r : RunOf) (p : PassOf) (e : EntryOf) → e.pass ≡ p.number → Fits r p → Fits (run_with_entry r e) (pass_with_receipt r p e)
own_fits r p e own f =
    let t : ReceiptOf = receipt_of (length r.journal) e in
    record {
      known = f.known;
      entries = length-append p.receipts (t ∷ []) ∙ ap (λ n. n + 1) f.entries ∙ sym (own_entries p.number r.journal e own);
      opens = ap (λ (s : RunState). length (opens_under p.number s.opens)) (sym (state_entered r e));
      last = last-push p.receipts t ∙ sym
          (ap last_of (own_receipts p.number r.journal e own) ∙ last-push (receipts_in p.number r.journal) t);
    }

-- another pass, which has as many opens as before
pub other_fits : (r : RunOf) (q : PassOf) (e : EntryOf) → e.pass ≢ q.number
    → length (opens_under q.number (apply (state_of r) e).opens) ≡ length (opens_under q.number (state_of r).opens) → Fits r q
    → Fits (run_with_entry r e) q
other_fits r q e other same f = record {
  known = f.known;
  entries = f.entries ∙ sym (other_entries q.number r.journal e other);
  opens = f.opens ∙ sym same ∙ ap (λ (s : RunState). length (opens_under q.number s.opens)) (sym (state_entered r e));
  last = f.last ∙ sym (ap last_of (other_receipts q.number r.journal e other));
}
