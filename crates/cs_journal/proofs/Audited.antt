-- If the receipts are the entries, each once, and the numbers of the passes differ, each entry has its own receipt.
use Rattle.std.proofs.Common.{◌≡◌, ◌≢◌, ◌∙◌, ◌⊎◌, ⊎_elim, inl, inr, ℕ, zero, suc, ◌+◌, ◌<◌, Bool, true, false, List, [], ◌∷◌, ◌++◌, length}
use Rattle.std.proofs.Common.{map, get_or, Some, refl, sym, ap, subst, arith}
use Rattle.std.proofs.lemmas.Bool.Decides.{nat_tests}
use Rattle.std.proofs.lemmas.List.Sorted.{IsPermutation-sym, Contains-permutation, length_permutation}
use Rattle.std.specs.List.{Contains, find}
use Rattle.std.specs.List.Sorted.{IsPermutation}
use Rattle.std.specs.Prelude.{slice_get}
use Rattle.cs_journal.proofs.Entries.{IsIn, entries_many, held_own, in_back, receipts_many}
use Rattle.cs_journal.specs.Audit.{AreEntries, HaveDistinctNumbers, IsAudited, all_entries_from, all_receipts, is_at, is_numbered}
use Rattle.cs_journal.specs.Audit.{receipt_for, receipts_of_pass}
use Rattle.cs_journal.specs.Journals.{EntryOf}
use Rattle.cs_journal.specs.Runs.{PassOf, ReceiptOf, receipt_of}

-- ---- lists of any elements

place_of : {A : Type 0} (x : A) (xs : List A) → IsIn x xs → Contains xs x
place_of x [] there = absurd there
place_of x (y ∷ ys) there =
    ⊎_elim
    (λ (same : x ≡ y). (zero, omega arith, sym same))
    (λ (rest : IsIn x ys). let k = place_of x ys rest in (suc k.0, omega (arith, k.1), k.2))
    there

in_at : {A : Type 0} (x : A) (xs : List A) (k : ℕ) → k < length xs → get_or xs k x ≡ x → IsIn x xs
in_at x [] k within same = absurd (omega (arith, within))
in_at x (y ∷ ys) zero within same = inl (sym same)
in_at x (y ∷ ys) (suc k) within same = inr (in_at x ys k (omega (arith, within)) same)

in_permuted : {A : Type 0} (x : A) (xs ys : List A) → IsPermutation xs ys → IsIn x xs → IsIn x ys
in_permuted x xs ys moved there =
    let k = Contains-permutation xs ys x moved (place_of x xs there) in
    in_at x ys k.0 k.1 k.2

-- ---- receipts, with the pass that has them

record OfPass (passes : List PassOf) (x : ℕ × ReceiptOf) : Type 0 where
  pass : PassOf
  there : IsIn pass passes
  number : x.0 ≡ pass.number
  receipt : IsIn x.1 pass.receipts

-- of a pass's own, or of a later one's
in_one : (number : ℕ) (x : ℕ × ReceiptOf) (rs : List ReceiptOf) (others : List (ℕ × ReceiptOf))
    → IsIn x (map (λ (r : ReceiptOf). (number, r)) rs ++ others)
    → ((x.0 ≡ number) × IsIn x.1 rs) ⊎ IsIn x others
in_one number x [] others there = inr there
in_one number x (r ∷ rs) others there =
    ⊎_elim
    (λ (same : x ≡ (number, r)). inl (ap (λ (y : ℕ × ReceiptOf). y.0) same, inl (ap (λ (y : ℕ × ReceiptOf). y.1) same)))
    (λ (rest : IsIn x (map (λ (s : ReceiptOf). (number, s)) rs ++ others)).
    ⊎_elim
    (λ (own : (x.0 ≡ number) × IsIn x.1 rs). inl (own.0, inr own.1))
    (λ (other : IsIn x others). inr other)
    (in_one number x rs others rest))
    there

of_pass : (passes : List PassOf) (x : ℕ × ReceiptOf) → IsIn x (all_receipts passes) → OfPass passes x
of_pass [] x there = absurd there
of_pass (p ∷ ps) x there =
    ⊎_elim
    (λ (own : (x.0 ≡ p.number) × IsIn x.1 p.receipts). record { pass = p; there = inl refl; number = own.0; receipt = own.1 })
    (λ (rest : IsIn x (all_receipts ps)). let o = of_pass ps x rest in record {
      pass = o.pass;
      there = inr o.there;
      number = o.number;
      receipt = o.receipt;
    })
    (in_one p.number x p.receipts (all_receipts ps) there)

own_receipts : (passes : List PassOf) (p : PassOf) (r : ReceiptOf) → IsIn p passes → IsIn r p.receipts
    → IsIn (p.number, r) (all_receipts passes)
own_receipts [] p r there held = absurd there
own_receipts (q ∷ qs) p r there held =
    ⊎_elim
    (λ (same : p ≡ q). subst (λ (o : PassOf). IsIn (p.number, r) (all_receipts (o ∷ qs))) same (held_own p qs p.number r held refl))
    (λ (rest : IsIn p qs). in_back (p.number, r) (map (λ (x : ReceiptOf). (q.number, x)) q.receipts) (all_receipts qs)
    (own_receipts qs p r rest held))
    there

-- ---- the pass of a number

later_differs : (p : PassOf) (ps : List PassOf) → HaveDistinctNumbers (p ∷ ps) → (q : PassOf) → IsIn q ps → p.number ≢ q.number
later_differs p ps distinct q there same =
    let k = place_of q ps there in
    let differs : p.number ≢ (get_or ps k.0 q).number = distinct 0 (suc k.0) q (omega arith) (omega (arith, k.1)) in
    differs (same ∙ ap (λ (o : PassOf). o.number) (sym k.2))

later_distinct : (p : PassOf) (ps : List PassOf) → HaveDistinctNumbers (p ∷ ps) → HaveDistinctNumbers ps
later_distinct p ps distinct i j d less within = distinct (suc i) (suc j) d (omega (arith, less)) (omega (arith, within))

receipts_by : (q : PassOf) (qs : List PassOf) (number : ℕ) (b : Bool) → is_numbered number q ≡ b
    → (b ≡ true → q.receipts ≡ receipts_of_pass (q ∷ qs) number)
    × (b ≡ false → receipts_of_pass (q ∷ qs) number ≡ receipts_of_pass qs number)
receipts_by q qs number true is = (λ _. rw is refl, λ bad. absurd cc)
receipts_by q qs number false is = (λ bad. absurd cc, λ _. rw is refl)

receipts_are : (passes : List PassOf) → HaveDistinctNumbers passes → (p : PassOf) → IsIn p passes
    → receipts_of_pass passes p.number ≡ p.receipts
receipts_are [] distinct p there = absurd there
receipts_are (q ∷ qs) distinct p there =
    ⊎_elim
    (λ (same : p ≡ q).
    let here : is_numbered p.number q ≡ true = subst (λ (o : PassOf). is_numbered p.number o ≡ true) same (grind (arith, nat_tests)) in
    sym ((receipts_by q qs p.number true here).0 refl) ∙ ap (λ (o : PassOf). o.receipts) (sym same))
    (λ (rest : IsIn p qs).
    let differs : q.number ≢ p.number = later_differs q qs distinct p rest in
    let other : is_numbered p.number q ≡ false = grind (arith, nat_tests, differs) in
    (receipts_by q qs p.number false other).1 refl ∙ receipts_are qs (later_distinct q qs distinct) p rest)
    there

-- ---- what is found

record Found (place : ℕ) (rs : List ReceiptOf) : Type 0 where
  receipt : ReceiptOf
  found : find (is_at place) rs ≡ Some receipt
  there : IsIn receipt rs
  at : receipt.place ≡ place

found_by : (place : ℕ) (x : ReceiptOf) (rs : List ReceiptOf) (b : Bool) → is_at place x ≡ b → (b ≡ false → Found place rs)
    → Found place (x ∷ rs)
found_by place x rs true here later = record { receipt = x; found = rw here refl; there = inl refl; at = grind (arith, nat_tests, here) }
found_by place x rs false other later = let f = later refl in record {
  receipt = f.receipt;
  found = rw other f.found;
  there = inr f.there;
  at = f.at;
}

found_among : (place : ℕ) (rs : List ReceiptOf) (r : ReceiptOf) → IsIn r rs → r.place ≡ place → Found place rs
found_among place [] r there at = absurd there
found_among place (x ∷ rs) r there at =
    ⊎_elim
    (λ (same : r ≡ x).
    let here : x.place ≡ place = ap (λ (o : ReceiptOf). o.place) (sym same) ∙ at in
    found_by place x rs (is_at place x) refl (λ other. absurd (grind (arith, nat_tests, here, other))))
    (λ (rest : IsIn r rs). found_by place x rs (is_at place x) refl (λ _. found_among place rs r rest at))
    there

-- ---- entries

entry_in : (place : ℕ) (es : List EntryOf) (k : ℕ) (e : EntryOf) → slice_get es k ≡ Some e
    → IsIn (e.pass, receipt_of (place + k) e) (all_entries_from place es)
entry_in place [] k e there = absurd cc
entry_in place (x ∷ es) zero e there =
    let same : e ≡ x = cc in
    let n : place + zero ≡ place = omega arith in
    inl (ap (λ (m : ℕ). (e.pass, receipt_of m e)) n ∙ ap (λ (y : EntryOf). (y.pass, receipt_of place y)) same)
entry_in place (x ∷ es) (suc k) e there =
    let n : place + 1 + k ≡ place + suc k = omega arith in
    inr (subst (λ (m : ℕ). IsIn (e.pass, receipt_of m e) (all_entries_from (place + 1) es)) n (entry_in (place + 1) es k e there))

record OfEntry (place : ℕ) (es : List EntryOf) (x : ℕ × ReceiptOf) : Type 0 where
  index : ℕ
  entry : EntryOf
  there : slice_get es index ≡ Some entry
  is : x.1 ≡ receipt_of (place + index) entry

of_entry : (place : ℕ) (es : List EntryOf) (x : ℕ × ReceiptOf) → IsIn x (all_entries_from place es) → OfEntry place es x
of_entry place [] x there = absurd there
of_entry place (e ∷ es) x there =
    ⊎_elim
    (λ (same : x ≡ (e.pass, receipt_of place e)). record {
      index = zero;
      entry = e;
      there = refl;
      is = ap (λ (y : ℕ × ReceiptOf). y.1) same ∙ ap (λ (n : ℕ). receipt_of n e) (omega arith);
    })
    (λ (rest : IsIn x (all_entries_from (place + 1) es)).
    let o = of_entry (place + 1) es x rest in
    let n : place + 1 + o.index ≡ place + suc o.index = omega arith in
    record { index = suc o.index; entry = o.entry; there = o.there; is = o.is ∙ ap (λ (m : ℕ). receipt_of m o.entry) n })
    there

-- the receipt that is found for the entry is its own
own_found : (passes : List PassOf) (journal : List EntryOf) → HaveDistinctNumbers passes → AreEntries passes journal
    → (place : ℕ) (e : EntryOf) → slice_get journal place ≡ Some e
    → receipt_for passes place e ≡ Some (receipt_of place e)
own_found passes journal distinct entries place e there =
    let listed : IsIn (e.pass, receipt_of (0 + place) e) (all_entries_from 0 journal) = entry_in 0 journal place e there in
    let held =
    in_permuted (e.pass, receipt_of (0 + place) e) (all_entries_from 0 journal) (all_receipts passes)
    (IsPermutation-sym (all_receipts passes) (all_entries_from 0 journal) entries) listed in
    let o = of_pass passes (e.pass, receipt_of (0 + place) e) held in
    let number : e.pass ≡ o.pass.number = o.number in
    let receipts : receipts_of_pass passes e.pass ≡ o.pass.receipts =
    ap (λ (n : ℕ). receipts_of_pass passes n) number ∙ receipts_are passes distinct o.pass o.there in
    let f = found_among place o.pass.receipts (receipt_of (0 + place) e) o.receipt (omega arith) in
    let again =
    in_permuted (o.pass.number, f.receipt) (all_receipts passes) (all_entries_from 0 journal) entries
    (own_receipts passes o.pass f.receipt o.there f.there) in
    let w = of_entry 0 journal (o.pass.number, f.receipt) again in
    let at : f.receipt.place ≡ 0 + w.index = ap (λ (r : ReceiptOf). r.place) w.is in
    let same_place : w.index ≡ place = omega (arith, at, f.at) in
    let same : w.entry ≡ e = let here : slice_get journal place ≡ Some w.entry =
    subst (λ (n : ℕ). slice_get journal n ≡ Some w.entry) same_place w.there in cc in
    let its : f.receipt ≡ receipt_of place e =
    w.is ∙ ap (λ (n : ℕ). receipt_of n w.entry) (omega (arith, same_place)) ∙ ap (λ (y : EntryOf). receipt_of place y) same in
    ap (λ (rs : List ReceiptOf). find (is_at place) rs) receipts ∙ f.found ∙ ap (λ (r : ReceiptOf). Some r) its

pub are_audited : (passes : List PassOf) (journal : List EntryOf) → HaveDistinctNumbers passes → AreEntries passes journal
    → IsAudited passes journal
are_audited passes journal distinct entries =
    let many : length (all_receipts passes) ≡ length (all_entries_from 0 journal) =
    sym (length_permutation (all_receipts passes) (all_entries_from 0 journal) entries) in (
      sym (receipts_many passes) ∙ many ∙ entries_many 0 journal,
      λ place below e there. own_found passes journal distinct entries place e
          there,
    )
