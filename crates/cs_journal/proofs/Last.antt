-- The last receipt of a pass is that of the entry at its place.
use Rattle.std.proofs.Common.{◌≡◌, ◌∙◌, ℕ, suc, ◌+◌, ◌-◌, Bool, true, false, List, [], ◌∷◌, length, Option, Some, None, refl, sym, ap}
use Rattle.std.proofs.Common.{arith, inl, inr, zero-add, ◌⊎◌, ⊎_elim}
use Rattle.std.specs.Prelude.{option_map, slice_get}
use Rattle.cs_journal.specs.Fitting.{receipt_at}
use Rattle.cs_journal.specs.Journals.{EntryOf, is_of_pass}
use Rattle.cs_journal.specs.Runs.{ReceiptOf, last_of, receipt_of, receipts_from, receipts_in}

-- an entry of a journal whose first entry has that place, with its receipt
pub record Stands (place : ℕ) (es : List EntryOf) (r : ReceiptOf) : Type 0 where
  pub index : ℕ
  pub entry : EntryOf
  pub there : slice_get es index ≡ Some entry
  pub its : r ≡ receipt_of (place + index) entry

first : (place : ℕ) (x : EntryOf) (es : List EntryOf) (r : ReceiptOf) → receipt_of place x ≡ r → Stands place (x ∷ es) r
first place x es r same = record { index = 0; entry = x; there = refl; its = sym same ∙ ap (λ n. receipt_of n x) (omega arith) }

later : (place : ℕ) (x : EntryOf) (es : List EntryOf) (r : ReceiptOf) → Stands (place + 1) es r → Stands place (x ∷ es) r
later place x es r s =
    let same : place + 1 + s.index ≡ place + suc s.index = omega arith in
    record { index = suc s.index; entry = s.entry; there = s.there; its = s.its ∙ ap (λ n. receipt_of n s.entry) same }

-- what is last in a list is its first, or the last of the rest
last_cons : {A : Type 0} (x r : A) (xs : List A) → last_of (x ∷ xs) ≡ Some r → (x ≡ r) ⊎ (last_of xs ≡ Some r)
last_cons x r [] there = inl (cc)
last_cons x r (y ∷ ys) there =
    let n : suc (suc (length ys)) - 1 ≡ suc (suc (length ys) - 1) = omega arith in
    inr (sym (ap (slice_get (x ∷ y ∷ ys)) n) ∙ there)

of_pass : (pass place : ℕ) (x : EntryOf) (es : List EntryOf) (r : ReceiptOf) (b : Bool) → is_of_pass pass x ≡ b
    → (last_of (receipts_from pass (place + 1) es) ≡ Some r → Stands (place + 1) es r)
    → last_of (receipts_from pass place (x ∷ es)) ≡ Some r → Stands place (x ∷ es) r
of_pass pass place x es r true own rest there =
    let at : last_of (receipt_of place x ∷ receipts_from pass (place + 1) es) ≡ Some r = rw own at there in
    ⊎_elim (first place x es r) (λ h. later place x es r (rest h)) (last_cons (receipt_of place x) r (receipts_from pass (place + 1) es) at)
of_pass pass place x es r false own rest there =
    let at : last_of (receipts_from pass (place + 1) es) ≡ Some r = rw own at there in
    later place x es r (rest at)

pub last_stands : (pass place : ℕ) (es : List EntryOf) (r : ReceiptOf) → last_of (receipts_from pass place es) ≡ Some r → Stands place es r
last_stands pass place [] r there = cc
last_stands pass place (x ∷ es) r there = of_pass pass place x es r (is_of_pass pass x) refl (last_stands pass (place + 1) es r) there

told : (es : List EntryOf) (o : Option ReceiptOf) → ((r : ReceiptOf) → o ≡ Some r → Stands 0 es r)
    → receipt_at es (option_map (λ (r : ReceiptOf). r.place) o) ≡ o
told es None stands = refl
told es (Some r) stands =
    let s = stands r refl in
    let its : r ≡ receipt_of s.index s.entry = s.its ∙ ap (λ n. receipt_of n s.entry) (zero-add s.index) in
    let place : r.place ≡ s.index = ap (λ (x : ReceiptOf). x.place) its in
    ap (λ n. option_map (receipt_of n) (slice_get es n)) place ∙ ap (option_map (receipt_of s.index)) s.there ∙ ap (λ x. Some x) (sym its)

-- so the place of a pass's last receipt determines the receipt
pub told_by_place : (pass : ℕ) (es : List EntryOf)
    → receipt_at es (option_map (λ (r : ReceiptOf). r.place) (last_of (receipts_in pass es))) ≡ last_of (receipts_in pass es)
told_by_place pass es = told es (last_of (receipts_in pass es)) (last_stands pass 0 es)
