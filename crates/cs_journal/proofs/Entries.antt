-- Where there are as many receipts as entries, and each entry has its own, the receipts are the entries in another order.
use Rattle.std.proofs.Common.{◌≡◌, ◌≢◌, ◌∙◌, ◌⊎◌, ⊎_elim, inl, inr, ℕ, zero, suc, ◌+◌, ◌≤◌, Bool, true, false, List, [], ◌∷◌, ◌++◌, length}
use Rattle.std.proofs.Common.{length-append, map, Some, refl, sym, ap, subst, arith, zero-add, add-zero}
use Rattle.std.proofs.lemmas.Bool.Decides.{nat_tests}
use Rattle.std.proofs.lemmas.List.{length-map}
use Rattle.std.proofs.lemmas.List.Sorted.{IsPermutation-cons, IsPermutation-middle, IsPermutation-refl, IsPermutation-trans}
use Rattle.std.proofs.lemmas.List.Sums.{sum_by-cons}
use Rattle.std.proofs.lemmas.Option.{slice_get_within}
use Rattle.std.specs.List.{find}
use Rattle.std.specs.List.Sorted.{IsPermutation}
use Rattle.std.specs.Prelude.{slice_get}
use Rattle.cs_journal.specs.Audit.{AreEntries, HaveReceipts, all_entries_from, all_receipts, is_at, is_numbered, receipt_for}
use Rattle.cs_journal.specs.Audit.{receipts_count, receipts_of_pass}
use Rattle.cs_journal.specs.Journals.{EntryOf}
use Rattle.cs_journal.specs.Runs.{PassOf, ReceiptOf, receipt_of}

-- ---- lists of any elements

-- the element is one of the list
abbrev pub IsIn : {A : Type 0} → A → List A → Type 0
IsIn x [] = ⊥
IsIn x (y ∷ ys) = (x ≡ y) ⊎ IsIn x ys

in_front : {A : Type 0} (x : A) (xs ys : List A) → IsIn x xs → IsIn x (xs ++ ys)
in_front x [] ys there = absurd there
in_front x (z ∷ xs) ys there = ⊎_elim (λ (same : x ≡ z). inl same) (λ (rest : IsIn x xs). inr (in_front x xs ys rest)) there

pub in_back : {A : Type 0} (x : A) (xs ys : List A) → IsIn x ys → IsIn x (xs ++ ys)
in_back x [] ys there = there
in_back x (z ∷ xs) ys there = inr (in_back x xs ys there)

in_map : {A B : Type 0} (f : A → B) (x : A) (xs : List A) → IsIn x xs → IsIn (f x) (map f xs)
in_map f x [] there = absurd there
in_map f x (y ∷ xs) there = ⊎_elim (λ (same : x ≡ y). inl (ap f same)) (λ (rest : IsIn x xs). inr (in_map f x xs rest)) there

-- a list around one of its elements
record Around {A : Type 0} (x : A) (xs : List A) : Type 0 where
  front : List A
  back : List A
  is : xs ≡ front ++ x ∷ back

around : {A : Type 0} (x : A) (xs : List A) → IsIn x xs → Around x xs
around x [] there = absurd there
around x (y ∷ ys) there =
    ⊎_elim
    (λ (same : x ≡ y). record { front = []; back = ys; is = ap (λ z. z ∷ ys) (sym same) })
    (λ (rest : IsIn x ys). let r = around x ys rest in record { front = y ∷ r.front; back = r.back; is = ap (λ zs. y ∷ zs) r.is })
    there

-- what is in a list, and isn't that element, is in the rest
in_rest : {A : Type 0} (z x : A) (front back : List A) → z ≢ x → IsIn z (front ++ x ∷ back) → IsIn z (front ++ back)
in_rest z x [] back differs there = ⊎_elim (λ (same : z ≡ x). absurd (differs same)) (λ (rest : IsIn z back). rest) there
in_rest z x (y ∷ front) back differs there =
    ⊎_elim (λ (same : z ≡ y). inl same) (λ (rest : IsIn z (front ++ x ∷ back)). inr (in_rest z x front back differs rest)) there

-- no element is there twice
abbrev AreApart : {A : Type 0} → List A → Type 0
AreApart [] = Unit {0}
AreApart {A} (y ∷ ys) = ((z : A) → IsIn z ys → z ≢ y) × AreApart ys

-- elements that are apart, and all in a list of as many, are that list
same_elements : {A : Type 0} (xs ys : List A) → AreApart ys → ((y : A) → IsIn y ys → IsIn y xs) → length xs ≡ length ys
    → IsPermutation xs ys
same_elements [] [] apart within many = IsPermutation-refl []
same_elements (x ∷ xs) [] apart within many = absurd (omega arith)
same_elements {A} xs (y ∷ ys) apart within many =
    let a = around y xs (within y (inl refl)) in
    let count : length xs ≡ length a.front + length (y ∷ a.back) = ap length a.is ∙ length-append a.front (y ∷ a.back) in
    let less : length (a.front ++ a.back) ≡ length ys = omega (arith, count, many, length-append a.front a.back) in
    let P : List A → Type 0 = λ zs. IsIn y zs in
    let rest : (z : A) → IsIn z ys → IsIn z (a.front ++ a.back) =
    λ z there. in_rest z y a.front a.back (apart.0 z there) (subst (λ (zs : List A). IsIn z zs) a.is (within z (inr there))) in
    let middle : IsPermutation xs (y ∷ (a.front ++ a.back)) =
    subst (λ (zs : List A). IsPermutation zs (y ∷ (a.front ++ a.back))) (sym a.is) (IsPermutation-middle a.front y a.back) in
    IsPermutation-trans xs (y ∷ (a.front ++ a.back)) (y ∷ ys) middle
    (IsPermutation-cons y (a.front ++ a.back) ys (same_elements (a.front ++ a.back) ys apart.1 rest less))

-- ---- entries

places_from : (place : ℕ) (es : List EntryOf) (x : ℕ × ReceiptOf) → IsIn x (all_entries_from place es) → place ≤ x.1.place
places_from place [] x there = absurd there
places_from place (e ∷ es) x there =
    ⊎_elim
    (λ (same : x ≡ (e.pass, receipt_of place e)). let at : x.1.place ≡ place = ap (λ (y : ℕ × ReceiptOf). y.1.place) same in
    omega (arith, at))
    (λ (rest : IsIn x (all_entries_from (place + 1) es)). let later : place + 1 ≤ x.1.place = places_from (place + 1) es x rest in
    omega (arith, later))
    there

entries_apart : (place : ℕ) (es : List EntryOf) → AreApart (all_entries_from place es)
entries_apart place [] = tt
entries_apart place (e ∷ es) = (
  λ z there same.
      let later : place + 1 ≤ z.1.place = places_from (place + 1) es z there in
      let at : z.1.place ≡ place = ap (λ (y : ℕ × ReceiptOf). y.1.place) same in
      omega (arith, later, at),
  entries_apart (place + 1) es,
)

pub entries_many : (place : ℕ) (es : List EntryOf) → length (all_entries_from place es) ≡ length es
entries_many place [] = refl
entries_many place (e ∷ es) = ap suc (entries_many (place + 1) es)

-- ---- receipts

pub receipts_many : (passes : List PassOf) → length (all_receipts passes) ≡ receipts_count passes
receipts_many [] = refl
receipts_many (p ∷ ps) =
    length-append (map (λ (r : ReceiptOf). (p.number, r)) p.receipts) (all_receipts ps) ∙ ap (λ n. n + length (all_receipts ps))
    (length-map p.receipts (λ (r : ReceiptOf). (p.number, r))) ∙ ap (λ n. length p.receipts + n) (receipts_many ps) ∙ sym
    (sum_by-cons (λ (q : PassOf). length q.receipts) p ps)

found_by : (place : ℕ) (x : ReceiptOf) (rs : List ReceiptOf) (r : ReceiptOf) (b : Bool) → is_at place x ≡ b
    → find (is_at place) (x ∷ rs) ≡ Some r → (find (is_at place) rs ≡ Some r → IsIn r rs) → IsIn r (x ∷ rs)
found_by place x rs r true here found later = let same : Some x ≡ Some r = rw here at found in inl (cc)
found_by place x rs r false other found later = let rest : find (is_at place) rs ≡ Some r = rw other at found in inr (later rest)

found_in : (place : ℕ) (rs : List ReceiptOf) (r : ReceiptOf) → find (is_at place) rs ≡ Some r → IsIn r rs
found_in place [] r found = absurd cc
found_in place (x ∷ rs) r found = found_by place x rs r (is_at place x) refl found (found_in place rs r)

pub held_own : (p : PassOf) (ps : List PassOf) (number : ℕ) (r : ReceiptOf) → IsIn r p.receipts → p.number ≡ number
    → IsIn (number, r) (all_receipts (p ∷ ps))
held_own p ps number r there same =
    in_front (number, r) (map (λ (x : ReceiptOf). (p.number, x)) p.receipts) (all_receipts ps)
    (subst (λ (n : ℕ). IsIn {A = ℕ × ReceiptOf} (n, r) (map (λ (x : ReceiptOf). (p.number, x)) p.receipts)) same
    (in_map (λ (x : ReceiptOf). (p.number, x)) r p.receipts there))

held_by : (p : PassOf) (ps : List PassOf) (number : ℕ) (r : ReceiptOf) (b : Bool) → is_numbered number p ≡ b
    → IsIn r (receipts_of_pass (p ∷ ps) number) → (IsIn r (receipts_of_pass ps number) → IsIn (number, r) (all_receipts ps))
    → IsIn (number, r) (all_receipts (p ∷ ps))
held_by p ps number r true here there later = let own : IsIn r p.receipts = rw here at there in
    held_own p ps number r own (grind (arith, nat_tests, here))
held_by p ps number r false other there later = let rest : IsIn r (receipts_of_pass ps number) = rw other at there in
    in_back (number, r) (map (λ (x : ReceiptOf). (p.number, x)) p.receipts) (all_receipts ps) (later rest)

held_in : (passes : List PassOf) (number : ℕ) (r : ReceiptOf) → IsIn r (receipts_of_pass passes number)
    → IsIn (number, r) (all_receipts passes)
held_in [] number r there = absurd there
held_in (p ∷ ps) number r there = held_by p ps number r (is_numbered number p) refl there (held_in ps number r)

-- each entry's own receipt is among all
entry_held : (passes : List PassOf) (place : ℕ) (e : EntryOf) → receipt_for passes place e ≡ Some (receipt_of place e)
    → IsIn (e.pass, receipt_of place e) (all_receipts passes)
entry_held passes place e its =
    held_in passes e.pass (receipt_of place e) (found_in place (receipts_of_pass passes e.pass) (receipt_of place e) its)

entries_held : (passes : List PassOf) (place : ℕ) (es : List EntryOf)
    → ((k : ℕ) (e : EntryOf) → slice_get es k ≡ Some e → receipt_for passes (place + k) e ≡ Some (receipt_of (place + k) e))
    → (x : ℕ × ReceiptOf) → IsIn x (all_entries_from place es) → IsIn x (all_receipts passes)
entries_held passes place [] told x there = absurd there
entries_held passes place (e ∷ es) told x there =
    let P : ℕ → Type 0 = λ n. receipt_for passes n e ≡ Some (receipt_of n e) in
    let first : IsIn (e.pass, receipt_of place e) (all_receipts passes) =
    entry_held passes place e (subst P (add-zero place) (told zero e refl)) in
    ⊎_elim
    (λ (same : x ≡ (e.pass, receipt_of place e)). subst (λ (y : ℕ × ReceiptOf). IsIn y (all_receipts passes)) (sym same) first)
    (λ (rest : IsIn x (all_entries_from (place + 1) es)). entries_held passes (place + 1) es
    (λ k d at. let n : place + suc k ≡ place + 1 + k = omega arith in
    subst (λ (m : ℕ). receipt_for passes m d ≡ Some (receipt_of m d)) n (told (suc k) d at)) x rest)
    there

pub are_entries : (passes : List PassOf) (journal : List EntryOf) → receipts_count passes ≡ length journal
    → HaveReceipts passes journal (length journal) → AreEntries passes journal
are_entries passes journal many told =
    same_elements (all_receipts passes) (all_entries_from 0 journal) (entries_apart 0 journal)
    (entries_held passes 0 journal
    (λ k e at. subst (λ (n : ℕ). receipt_for passes n e ≡ Some (receipt_of n e)) (sym (zero-add k))
    (told k (slice_get_within journal k e at) e at)))
    (receipts_many passes ∙ many ∙ sym (entries_many 0 journal))
