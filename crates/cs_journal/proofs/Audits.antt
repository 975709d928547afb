-- Receipts in the order of their places, and what is found among them.
use Rattle.std.proofs.Common.{◌≡◌, ◌≢◌, ◌∙◌, ◌↔◌, ◌⊎◌, ⊎_elim, inl, inr, ℕ, suc, ◌+◌, ◌-◌, ◌<◌, ◌≤◌, ◌==◌, Bool, true, false, List, [], ◌∷◌}
use Rattle.std.proofs.Common.{◌++◌, length, length-set, drop, drop-cons, get_or, set, Option, Some, None, Err, refl, sym, ap, subst, arith}
use Rattle.std.proofs.Common.{add-one}
use Rattle.std.proofs.lemmas.Bool.{eqb-false}
use Rattle.std.proofs.lemmas.Bool.Decides.{nat_tests}
use Rattle.std.proofs.lemmas.List.{get_or-set_same, get_or-set_other}
use Rattle.std.proofs.lemmas.List.Quantifiers.{all_pairs_push}
use Rattle.std.proofs.lemmas.Option.{get_or_from_slice_get, slice_get-get_or, slice_get_within}
use Rattle.std.specs.List.{find}
use Rattle.std.specs.Prelude.{IfSome, slice_get}
use borrow.Author.Count.{below_more}
use Rattle.cs_journal.proofs.Last.{last_stands}
use Rattle.cs_journal.specs.Audit.{AreRests, HaveReceipts, IsRest, IsAudit, TellsOf, is_at, receipt_for, receipts_of_pass}
use Rattle.cs_journal.specs.declared.auditing.AuditFault.{AuditFault}
use Rattle.cs_journal.specs.declared.auditing.AuditFault.TheVariants.{Count, Missing, Changed}
use Rattle.cs_journal.specs.Journals.{EntryOf}
use Rattle.cs_journal.specs.Runs.{Fits, IsAscending, PassOf, ReceiptOf, RunOf, last_of, receipt_of, receipts_in}

-- ---- places that ascend

-- the places of a pass's receipts are those of entries
own_places : (r : RunOf) (p : PassOf) → Fits r p → IsAscending p.receipts → (k : ℕ) (d : ReceiptOf) → k < length p.receipts
    → (get_or p.receipts k d).place < length r.journal
own_places r p f up k d within =
    let last : ReceiptOf = get_or p.receipts (length p.receipts - 1) d in
    let there : last_of (receipts_in p.number r.journal) ≡ Some last =
    sym f.last ∙ slice_get-get_or p.receipts (length p.receipts - 1) d (omega arith) in
    let s = last_stands p.number 0 r.journal last there in
    let place : last.place ≡ 0 + s.index = ap (λ (x : ReceiptOf). x.place) s.its in
    let inside : s.index < length r.journal = slice_get_within r.journal s.index s.entry s.there in
    let before : k < length p.receipts - 1 → (get_or p.receipts k d).place < last.place =
    λ lt. up k (length p.receipts - 1) d lt (omega arith) in
    let same : k ≡ length p.receipts - 1 → (get_or p.receipts k d).place ≡ last.place = λ e. ap (λ n. (get_or p.receipts n d).place) e in
    grind (arith, place, inside, before, same)

-- so the receipt of the next entry comes after them
pub ascending_push : (r : RunOf) (p : PassOf) (e : EntryOf) → Fits r p → IsAscending p.receipts
    → IsAscending (p.receipts ++ receipt_of (length r.journal) e ∷ [])
ascending_push r p e f up =
    all_pairs_push (λ one later. one.place < later.place) p.receipts (receipt_of (length r.journal) e) up (own_places r p f up)

-- ---- what is found among receipts

pub skip : (xs : List ReceiptOf) (k later : ℕ) (d : ReceiptOf) → k < length xs → is_at later (get_or xs k d) ≡ false
    → find (is_at later) (drop (k + 1) xs) ≡ find (is_at later) (drop k xs)
skip xs k later d within other = rw (add-one, drop-cons xs k d) (rw other refl)

find_none : (place : ℕ) (xs : List ReceiptOf) → ((k : ℕ) (d : ReceiptOf) → k < length xs → is_at place (get_or xs k d) ≡ false)
    → find (is_at place) xs ≡ None
find_none place [] none = refl
find_none place (x ∷ xs) none = rw (none 0 x (omega arith)) (find_none place xs (λ k d within. none (suc k) d (omega arith)))

-- if the first receipt has a later place, none is found
found_none : (place : ℕ) (x : ReceiptOf) (xs : List ReceiptOf) → IsAscending (x ∷ xs) → place < x.place → find (is_at place) (x ∷ xs) ≡ None
found_none place x xs up later = find_none place (x ∷ xs) (λ k d within.
    let above : 0 < k → x.place < (get_or (x ∷ xs) k d).place = λ some. up 0 k d some within in
    let same : k ≡ 0 → x.place ≡ (get_or (x ∷ xs) k d).place = λ e. ap (λ n. (get_or (x ∷ xs) n d).place) (sym e) in
    grind (arith, nat_tests, above, same))

pub first_is_later : (place : ℕ) (rs : List ReceiptOf) (x : ReceiptOf) → IsAscending rs → IfSome (slice_get rs 0) (λ r. place ≤ r.place)
    → slice_get rs 0 ≡ Some x → x.place ≢ place → None ≡ find (is_at place) rs
first_is_later place [] x up from there differs = absurd cc
first_is_later place (y ∷ ys) x up from there differs =
    let same : y ≡ x = cc in
    let at : y.place ≡ x.place = ap (λ (r : ReceiptOf). r.place) same in
    let least : place ≤ y.place = from in
    sym (found_none place y ys up (omega (arith, at, least, differs)))

-- ---- the rests of all passes during an audit

pub rest_later : (passes : List PassOf) (number place : ℕ) (rest : List ReceiptOf) → IsRest passes number place rest
    → IsRest passes number (place + 1) rest
rest_later passes number place rest r = record { same = λ later le. r.same later (omega arith); ascending = r.ascending }

pub first_rest : (passes : List PassOf) (number : ℕ) (rest : List ReceiptOf) → rest ≡ receipts_of_pass passes number → IsAscending rest
    → IsRest passes number 0 rest
first_rest passes number rest is up = record { same = λ later le. ap (find (is_at later)) is; ascending = up }

got_set : {A : Type 0} (xs : List A) (i j : ℕ) (a x : A) (b : Bool) → (j == i) ≡ b → slice_get (set xs i a) j ≡ Some x → ((j ≡ i) × (x ≡ a))
    ⊎ ((j ≢ i) × (slice_get xs j ≡ Some x))
got_set xs i j a x true same there =
    let e : j ≡ i = grind (arith, nat_tests) in
    let within : j < length xs = omega (arith, slice_get_within (set xs i a) j x there, length-set xs i a) in
    inl (
      e,
      sym (get_or_from_slice_get (set xs i a) j x a there) ∙ ap (λ n. get_or (set xs i a) n a) e ∙ get_or-set_same xs i a a
          (omega (arith, within, e)),
    )
got_set xs i j a x false other there =
    let within : j < length xs = omega (arith, slice_get_within (set xs i a) j x there, length-set xs i a) in
    let ne : j ≢ i = eqb-false j i other in
    inr (
      ne,
      slice_get-get_or xs j a within ∙ ap (λ y. Some y)
          (sym (get_or-set_other xs i j a a ne) ∙ get_or_from_slice_get (set xs i a) j x a there),
    )

module _ {A : Type 0} (now : A → List ReceiptOf) (passes : List PassOf) where
  -- of the numbers below that one
  abbrev pub AreFirst : List A → ℕ → Type 0
  AreFirst rests n = (number : ℕ) (rest : A) → number < n → slice_get rests number ≡ Some rest → IsRest passes number 0 (now rest)

  pub rests_first : (rests : List A) (n : ℕ) (rest : A) → AreFirst rests n → IsRest passes n 0 (now rest)
      → AreFirst (set rests n rest) (n + 1)
  rests_first rests n rest all own number x below there =
      ⊎_elim
      (λ (same : (number ≡ n) × (x ≡ rest)). subst (λ (m : ℕ). IsRest passes m 0 (now x)) (sym same.0)
      (subst (λ (y : A). IsRest passes n 0 (now y)) (sym same.1) own))
      (λ (other : (number ≢ n) × (slice_get rests number ≡ Some x)). all number x (omega (arith, below, other.0)) other.1)
      (got_set rests n number rest x (number == n) refl there)

  pub rests_more : (rests : List A) (n place : ℕ) (rest : A) → AreRests now passes rests place → IsRest passes n place (now rest)
      → AreRests now passes (set rests n rest) (place + 1)
  rests_more rests n place rest all own number x there =
      ⊎_elim
      (λ (same : (number ≡ n) × (x ≡ rest)). rest_later passes number place (now x)
      (subst (λ (m : ℕ). IsRest passes m place (now x)) (sym same.0)
      (subst (λ (y : A). IsRest passes n place (now y)) (sym same.1) own)))
      (λ (other : (number ≢ n) × (slice_get rests number ≡ Some x)). rest_later passes number place (now x) (all number x other.1))
      (got_set rests n number rest x (number == n) refl there)

  -- the rest of a number's pass, without receipts whose places are before the place
  pub next_rest : (rests : List A) (n place : ℕ) (d : A) (rest : List ReceiptOf) → AreRests now passes rests place → n < length rests
      → ((later : ℕ) → place ≤ later → find (is_at later) rest ≡ find (is_at later) (now (get_or rests n d))) → IsAscending rest
      → IsRest passes n place rest
  next_rest rests n place d rest all within same up =
      let old = all n (get_or rests n d) (slice_get-get_or rests n d within) in
      record { same = λ later le. same later le ∙ old.same later le; ascending = up }

-- ---- the entries, one after the other

-- what is found in the rest of an entry's pass is the receipt for the entry
pub found_for : (passes : List PassOf) (n place : ℕ) (e : EntryOf) (rest : List ReceiptOf) (o : Option ReceiptOf)
    → IsRest passes n place rest → n ≡ e.pass → o ≡ find (is_at place) rest → o ≡ receipt_for passes place e
found_for passes n place e rest o r own is = is ∙ r.same place (omega arith) ∙ ap (λ m. find (is_at place) (receipts_of_pass passes m)) own

pub told_more : (passes : List PassOf) (journal : List EntryOf) (k : ℕ) (e : EntryOf) → HaveReceipts passes journal k
    → slice_get journal k ≡ Some e → receipt_for passes k e ≡ Some (receipt_of k e) → HaveReceipts passes journal (k + 1)
told_more passes journal k e told there its =
    below_more (λ (place : ℕ). (x : EntryOf) → slice_get journal place ≡ Some x → receipt_for passes place x ≡ Some (receipt_of place x)) k
    told
    (λ x at. let same : e ≡ x = cc in subst (λ (y : EntryOf). receipt_for passes k y ≡ Some (receipt_of k y)) same its)

fault_told : (passes : List PassOf) (journal : List EntryOf) (k : ℕ) (e : EntryOf) (fault : AuditFault) → HaveReceipts passes journal k
    → slice_get journal k ≡ Some e → TellsOf (receipt_for passes k e) k e (Err fault) → IsAudit passes journal (Err fault)
fault_told passes journal k e Count told there tells = tells
fault_told passes journal k e (Missing place) told there tells =
    let P : ℕ → Type 0 = λ n. IsAudit passes journal (Err (Missing n)) in
    subst P (sym tells.0) (record { entry = e; there = there; none = tells.1; before = told })
fault_told passes journal k e (Changed place) told there tells =
    let P : ℕ → Type 0 = λ n. IsAudit passes journal (Err (Changed n)) in
    subst P (sym tells.0) (record { entry = e; receipt = tells.1.0; there = there; other = tells.1.1; differs = tells.1.2; before = told })

pub first_fault : (passes : List PassOf) (journal : List EntryOf) (k : ℕ) (e : EntryOf) (o : Option ReceiptOf) (fault : AuditFault)
    → HaveReceipts passes journal k → slice_get journal k ≡ Some e → o ≡ receipt_for passes k e → TellsOf o k e (Err fault)
    → IsAudit passes journal (Err fault)
first_fault passes journal k e o fault told there found tells =
    fault_told passes journal k e fault told there (subst (λ (x : Option ReceiptOf). TellsOf x k e (Err fault)) found tells)

-- a receipt that isn't the entry's own
pub other_told : (place : ℕ) (e : EntryOf) (o : Option ReceiptOf) (r : ReceiptOf) (b : Bool) → o ≡ Some r
    → ((b ≡ true) ↔ (r ≡ receipt_of place e)) → b ≡ false → TellsOf o place e (Err (Changed place))
other_told place e o r b is same fails = (refl, (r, is, λ its. let bad : false ≡ true = sym fails ∙ same.1 its in absurd cc))
