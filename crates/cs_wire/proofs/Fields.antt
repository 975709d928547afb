-- A field that is read was spelled so, and a field that is spelled is read again.
use Rattle.std.proofs.Common.{◌≡◌, ℕ, zero, suc, ◌^◌, ◌<◌, ◌≤◌, true, false, cond, eqb, ltb, List, [], ◌∷◌, ◌++◌, length, Result, Ok, Err}
use Rattle.std.proofs.Common.{refl, sym, ap, subst, ◌∙◌, append_assoc, arith}
use Rattle.std.specs.Int.{w8, w16, w32, w64, to_le_bytes}
use Rattle.std.specs.List.{flat_map, AllByRecursion}
use Rattle.std.proofs.lemmas.Bool.{ltb-false, le-ltb, eqb-true, eq-eqb}
use Rattle.std.proofs.lemmas.List.{length-append, append-nil}
use Rattle.std.proofs.lemmas.List.Concat.{flat_map-cons}
use Rattle.cs_wire.specs.declared.fault.WireFault.{WireFault}
use Rattle.cs_wire.specs.declared.fault.WireFault.TheVariants as faults
use Rattle.cs_wire.specs.Fields.{Shape, Nothing, One, Two, Four, Eight, Text, Raw, Several, Boxed, ◌▸◌, Value, is_text, entry}
use Rattle.cs_wire.specs.Fields.{bytes_of_field, IsIn}
use Rattle.cs_wire.specs.Reading.{◌>>=◌, front_at, number_at, text_at, raw_at, times_at, several_at, or_trailing, or_size_lies, sized_in}
use Rattle.cs_wire.specs.Reading.{entry_in, boxed_at, field_at}
use Rattle.cs_wire.proofs.Numbers.{IsBytes, bind_ok, guard_ok, test_ok, ok_is, whole_ok, Took, Took-then, front_takes, front_again, wide8}
use Rattle.cs_wire.proofs.Numbers.{wide16, wide32, wide64, number_takes, number_again}

abbrev pub Reader : Type 0 → Type 0
Reader A = List ℕ → Result (A × List ℕ) WireFault

-- what it reads was spelled so, and is good
abbrev pub TakesIt : {A : Type 0} → Reader A → (A → List ℕ) → (A → Type 0) → Type 0
TakesIt {A} read spell IsGood =
    (bytes : List ℕ) (x : A × List ℕ) → IsBytes bytes → read bytes ≡ Ok x → Took bytes (spell x.0) x.1 × IsGood x.0

-- what is good is read again
abbrev pub ReadsIt : {A : Type 0} → Reader A → (A → List ℕ) → (A → Type 0) → Type 0
ReadsIt {A} read spell IsGood = (v : A) (rest : List ℕ) → IsGood v → read (spell v ++ rest) ≡ Ok (v, rest)

-- ---- texts and bytes

text_takes : TakesIt text_at (λ v. to_le_bytes w16 (length v) ++ v) (λ v. (length v < 2 ^ 16) × (is_text v ≡ true))
unfolding text_at
text_takes bytes x fits e =
    let a = bind_ok (number_at w16 bytes)
    (λ count. front_at count.0 count.1 >>= λ text. cond (is_text text.0) (Ok text) (Err faults.BadText)) x e in
    let b = bind_ok (front_at a.0.0 a.0.1) (λ text. cond (is_text text.0) (Ok text) (Err faults.BadText)) x a.2 in
    let h = test_ok (is_text b.0.0) faults.BadText (Ok b.0) x b.2 in
    let t = number_takes w16 (2 ^ 16) wide16 bytes a.0 fits a.1 in
    let f = front_takes a.0.0 a.0.1 b.0 t.0.rest_fits b.1 in
    let both = Took-then bytes (to_le_bytes w16 a.0.0) a.0.1 b.0.0 b.0.1 t.0 f.0 in
    let named : Took bytes (to_le_bytes w16 (length b.0.0) ++ b.0.0) b.0.1 =
    subst (λ (n : ℕ). Took bytes (to_le_bytes w16 n ++ b.0.0) b.0.1) (sym f.2) both in
    subst (λ (p : List ℕ × List ℕ). Took bytes (to_le_bytes w16 (length p.0) ++ p.0) p.1 × ((length p.0 < 2 ^ 16) × (is_text p.0 ≡ true)))
    (ok_is b.0 x h.1) (named, (omega (arith, t.1, f.2), h.0))

text_again : ReadsIt text_at (λ v. to_le_bytes w16 (length v) ++ v) (λ v. (length v < 2 ^ 16) × (is_text v ≡ true))
unfolding text_at
text_again v rest fits =
    ap text_at (append_assoc (to_le_bytes w16 (length v)) v rest) ∙ rw
    (number_again w16 (2 ^ 16) wide16 (length v) (v ++ rest) fits.0, front_again (length v) v rest refl, fits.1) refl

raw_takes : TakesIt raw_at (λ v. to_le_bytes w32 (length v) ++ v) (λ v. length v < 2 ^ 32)
unfolding raw_at
raw_takes bytes x fits e =
    let a = bind_ok (number_at w32 bytes) (λ count. front_at count.0 count.1) x e in
    let t = number_takes w32 (2 ^ 32) wide32 bytes a.0 fits a.1 in
    let f = front_takes a.0.0 a.0.1 x t.0.rest_fits a.2 in
    let both = Took-then bytes (to_le_bytes w32 a.0.0) a.0.1 x.0 x.1 t.0 f.0 in
    (subst (λ (n : ℕ). Took bytes (to_le_bytes w32 n ++ x.0) x.1) (sym f.2) both, omega (arith, t.1, f.2))

raw_again : ReadsIt raw_at (λ v. to_le_bytes w32 (length v) ++ v) (λ v. length v < 2 ^ 32)
unfolding raw_at
raw_again v rest fits =
    ap raw_at (append_assoc (to_le_bytes w32 (length v)) v rest) ∙ rw (number_again w32 (2 ^ 32) wide32 (length v) (v ++ rest) fits)
    (front_again (length v) v rest refl)

-- ---- the same field, so many times

times_take : {A : Type 0} (read : Reader A) (spell : A → List ℕ) (IsGood : A → Type 0) → TakesIt read spell IsGood
    → (n : ℕ) (bytes : List ℕ) (x : List A × List ℕ) → IsBytes bytes → times_at read n bytes ≡ Ok x
    → Took bytes (flat_map spell x.0) x.1 × (length x.0 ≡ n) × AllByRecursion IsGood x.0
unfolding times_at
times_take {A} read spell IsGood law zero bytes x fits e =
    subst (λ (y : List A × List ℕ). Took bytes (flat_map spell y.0) y.1 × (length y.0 ≡ 0) × AllByRecursion IsGood y.0)
    (ok_is ([], bytes) x e) (record { parts = refl; rest_fits = fits }, refl, tt)
times_take {A} read spell IsGood law (suc n) bytes x fits e =
    let a = bind_ok (read bytes) (λ first. times_at read n first.1 >>= λ others. Ok (first.0 ∷ others.0, others.1)) x e in
    let b = bind_ok (times_at read n a.0.1) (λ others. Ok (a.0.0 ∷ others.0, others.1)) x a.2 in
    let first = law bytes a.0 fits a.1 in
    let second = times_take read spell IsGood law n a.0.1 b.0 first.0.rest_fits b.1 in
    let both = Took-then bytes (spell a.0.0) a.0.1 (flat_map spell b.0.0) b.0.1 first.0 second.0 in
    let made : List A × List ℕ = (a.0.0 ∷ b.0.0, b.0.1) in
    subst (λ (y : List A × List ℕ). Took bytes (flat_map spell y.0) y.1 × (length y.0 ≡ suc n) × AllByRecursion IsGood y.0)
    (ok_is made x b.2) (rw flat_map-cons both, ap suc second.1, (first.1, second.2))

times_again : {A : Type 0} (read : Reader A) (spell : A → List ℕ) (IsGood : A → Type 0) → ReadsIt read spell IsGood
    → (vs : List A) (rest : List ℕ) → AllByRecursion IsGood vs → times_at read (length vs) (flat_map spell vs ++ rest) ≡ Ok (vs, rest)
unfolding times_at
times_again read spell IsGood law [] rest fits = refl
times_again read spell IsGood law (v ∷ vs) rest fits =
    let regrouped : flat_map spell (v ∷ vs) ++ rest ≡ spell v ++ (flat_map spell vs ++ rest) =
    ap (λ (x : List ℕ). x ++ rest) (flat_map-cons spell v vs) ∙ append_assoc (spell v) (flat_map spell vs) rest in
    ap (times_at read (suc (length vs))) regrouped ∙ rw
    (law v (flat_map spell vs ++ rest) fits.0, times_again read spell IsGood law vs rest fits.1) refl

abbrev spelled_several : {A : Type 0} → (A → List ℕ) → List A → List ℕ
spelled_several spell vs = to_le_bytes w16 (length vs) ++ flat_map spell vs

several_takes : {A : Type 0} (read : Reader A) (spell : A → List ℕ) (IsGood : A → Type 0) → TakesIt read spell IsGood
    → TakesIt (several_at read) (spelled_several spell) (λ vs. (length vs ≤ 16) × AllByRecursion IsGood vs)
unfolding several_at
several_takes read spell IsGood law bytes x fits e =
    let a = bind_ok (number_at w16 bytes) (λ count. cond (ltb 16 count.0) (Err faults.TooManyNames) (times_at read count.0 count.1)) x e in
    let g = guard_ok (ltb 16 a.0.0) faults.TooManyNames (times_at read a.0.0 a.0.1) x a.2 in
    let few : a.0.0 ≤ 16 = ltb-false _ _ g.0 in
    let t = number_takes w16 (2 ^ 16) wide16 bytes a.0 fits a.1 in
    let f = times_take read spell IsGood law a.0.0 a.0.1 x t.0.rest_fits g.1 in
    let both = Took-then bytes (to_le_bytes w16 a.0.0) a.0.1 (flat_map spell x.0) x.1 t.0 f.0 in
    (subst (λ (n : ℕ). Took bytes (to_le_bytes w16 n ++ flat_map spell x.0) x.1) (sym f.1) both, (omega (arith, few, f.1), f.2))

several_again : {A : Type 0} (read : Reader A) (spell : A → List ℕ) (IsGood : A → Type 0) → ReadsIt read spell IsGood
    → ReadsIt (several_at read) (spelled_several spell) (λ vs. (length vs ≤ 16) × AllByRecursion IsGood vs)
unfolding several_at
several_again read spell IsGood law vs rest fits =
    let few : ltb 16 (length vs) ≡ false = le-ltb _ _ fits.0 in
    ap (several_at read) (append_assoc (to_le_bytes w16 (length vs)) (flat_map spell vs) rest) ∙ rw
    (number_again w16 (2 ^ 16) wide16 (length vs) (flat_map spell vs ++ rest) (omega (arith, fits.0)), few)
    (times_again read spell IsGood law vs rest fits.1)

-- ---- entries

inside_ok : {A : Type 0} (r : Result A WireFault) (v : A) → or_size_lies r ≡ Ok v → r ≡ Ok v
inside_ok (Ok x) v e = e
inside_ok (Err faults.Short) v e = absurd cc
inside_ok (Err faults.Trailing) v e = absurd cc
inside_ok (Err f) v e = absurd cc

sized_takes : {A : Type 0} (read : Reader A) (spell : A → List ℕ) (IsGood : A → Type 0) → TakesIt read spell IsGood
    → (bytes : List ℕ) (v : A) → IsBytes bytes → sized_in read bytes ≡ Ok v → (bytes ≡ entry (spell v)) × IsGood v
unfolding sized_in
sized_takes read spell IsGood law bytes v fits e =
    let a = bind_ok (number_at w16 bytes) (λ size. cond (eqb size.0 (length size.1)) (or_trailing (read size.1)) (Err faults.SizeLies)) v e
    in
    let h = test_ok (eqb a.0.0 (length a.0.1)) faults.SizeLies (or_trailing (read a.0.1)) v a.2 in
    let t = number_takes w16 (2 ^ 16) wide16 bytes a.0 fits a.1 in
    let f = law a.0.1 (v, []) t.0.rest_fits (whole_ok (read a.0.1) v h.1) in
    let all : a.0.1 ≡ spell v = f.0.parts ∙ append-nil (spell v) in
    let size : a.0.0 ≡ length (spell v) = eqb-true _ _ h.0 ∙ ap length all in
    (t.0.parts ∙ ap (λ (z : List ℕ). to_le_bytes w16 a.0.0 ++ z) all ∙ ap (λ (n : ℕ). to_le_bytes w16 n ++ spell v) size, f.1)

sized_again : {A : Type 0} (read : Reader A) (spell : A → List ℕ) (IsGood : A → Type 0) → ReadsIt read spell IsGood → (v : A) → IsGood v
    → length (spell v) < 2 ^ 16 → sized_in read (entry (spell v)) ≡ Ok v
unfolding sized_in
sized_again read spell IsGood law v good lt =
    let same : eqb (length (spell v)) (length (spell v)) ≡ true = eq-eqb (length (spell v)) (length (spell v)) refl in
    let all : read (spell v) ≡ Ok (v, []) = ap read (sym (append-nil (spell v))) ∙ law v [] good in
    rw (number_again w16 (2 ^ 16) wide16 (length (spell v)) (spell v) lt, same, all) refl

abbrev spelled_boxed : {A : Type 0} → (A → List ℕ) → A → List ℕ
spelled_boxed spell v = to_le_bytes w16 (length (entry (spell v))) ++ entry (spell v)

boxed_takes : {A : Type 0} (read : Reader A) (spell : A → List ℕ) (IsGood : A → Type 0) → TakesIt read spell IsGood
    → TakesIt (boxed_at read) (spelled_boxed spell) (λ v. IsGood v × (length (entry (spell v)) < 2 ^ 16))
unfolding boxed_at
boxed_takes {A} read spell IsGood law bytes x fits e =
    let a = bind_ok (number_at w16 bytes)
    (λ count. front_at count.0 count.1 >>= λ front. entry_in read front.0 >>= λ value. Ok (value, front.1)) x e in
    let b = bind_ok (front_at a.0.0 a.0.1) (λ front. entry_in read front.0 >>= λ value. Ok (value, front.1)) x a.2 in
    let d = bind_ok (entry_in read b.0.0) (λ value. Ok (value, b.0.1)) x b.2 in
    let t = number_takes w16 (2 ^ 16) wide16 bytes a.0 fits a.1 in
    let f = front_takes a.0.0 a.0.1 b.0 t.0.rest_fits b.1 in
    let s = sized_takes read spell IsGood law b.0.0 d.0 f.1 (inside_ok (sized_in read b.0.0) d.0 d.1) in
    let len : a.0.0 ≡ length (entry (spell d.0)) = sym f.2 ∙ ap length s.0 in
    let both = Took-then bytes (to_le_bytes w16 a.0.0) a.0.1 b.0.0 b.0.1 t.0 f.0 in
    let named : Took bytes (to_le_bytes w16 a.0.0 ++ entry (spell d.0)) b.0.1 =
    subst (λ (z : List ℕ). Took bytes (to_le_bytes w16 a.0.0 ++ z) b.0.1) s.0 both in
    let counted : Took bytes (spelled_boxed spell d.0) b.0.1 =
    subst (λ (n : ℕ). Took bytes (to_le_bytes w16 n ++ entry (spell d.0)) b.0.1) len named in
    let short : length (entry (spell d.0)) < 2 ^ 16 = subst (λ (n : ℕ). n < 2 ^ 16) len t.1 in
    let made : A × List ℕ = (d.0, b.0.1) in
    subst (λ (y : A × List ℕ). Took bytes (spelled_boxed spell y.0) y.1 × (IsGood y.0 × (length (entry (spell y.0)) < 2 ^ 16)))
    (ok_is made x d.2) (counted, (s.1, short))

boxed_again : {A : Type 0} (read : Reader A) (spell : A → List ℕ) (IsGood : A → Type 0) → ReadsIt read spell IsGood
    → ReadsIt (boxed_at read) (spelled_boxed spell) (λ v. IsGood v × (length (entry (spell v)) < 2 ^ 16))
unfolding boxed_at
boxed_again read spell IsGood law v rest fits =
    let lt : length (spell v) < 2 ^ 16 = omega (arith, length-append (to_le_bytes w16 (length (spell v))) (spell v), fits.1) in
    let inner : entry_in read (entry (spell v)) ≡ Ok v = ap or_size_lies (sized_again read spell IsGood law v fits.0 lt) in
    ap (boxed_at read) (append_assoc (to_le_bytes w16 (length (entry (spell v)))) (entry (spell v)) rest) ∙ rw (
      number_again w16 (2 ^ 16) wide16 (length (entry (spell v))) (entry (spell v) ++ rest) fits.1,
      front_again
          (length (entry (spell v))) (entry (spell v)) rest refl,
      inner,
    ) refl

-- ---- every shape

then_takes : (s t : Shape) → TakesIt (field_at s) (bytes_of_field s) (IsIn s) → TakesIt (field_at t) (bytes_of_field t) (IsIn t)
    → TakesIt (field_at (s ▸ t)) (bytes_of_field (s ▸ t)) (IsIn (s ▸ t))
unfolding field_at bytes_of_field
then_takes s t left right bytes x fits e =
    let a = bind_ok (field_at s bytes) (λ first. field_at t first.1 >>= λ second. Ok ((first.0, second.0), second.1)) x e in
    let b = bind_ok (field_at t a.0.1) (λ second. Ok ((a.0.0, second.0), second.1)) x a.2 in
    let p = left bytes a.0 fits a.1 in
    let q = right a.0.1 b.0 p.0.rest_fits b.1 in
    let both = Took-then bytes (bytes_of_field s a.0.0) a.0.1 (bytes_of_field t b.0.0) b.0.1 p.0 q.0 in
    let made : (Value s × Value t) × List ℕ = ((a.0.0, b.0.0), b.0.1) in
    subst (λ (y : (Value s × Value t) × List ℕ). Took bytes (bytes_of_field s y.0.0 ++ bytes_of_field t y.0.1) y.1
    × (IsIn s y.0.0 × IsIn t y.0.1)) (ok_is made x b.2) (both, (p.1, q.1))

pub field_takes : (s : Shape) → TakesIt (field_at s) (bytes_of_field s) (IsIn s)
unfolding field_at bytes_of_field
field_takes Nothing bytes x fits e =
    subst (λ (y : Unit {0} × List ℕ). Took bytes (bytes_of_field Nothing y.0) y.1 × Unit {0}) (ok_is (tt, bytes) x e) (
      record {
        parts = refl;
        rest_fits = fits;
      },
      tt,
    )
field_takes One bytes x fits e = number_takes w8 (2 ^ 8) wide8 bytes x fits e
field_takes Two bytes x fits e = number_takes w16 (2 ^ 16) wide16 bytes x fits e
field_takes Four bytes x fits e = number_takes w32 (2 ^ 32) wide32 bytes x fits e
field_takes Eight bytes x fits e = number_takes w64 (2 ^ 64) wide64 bytes x fits e
field_takes Text bytes x fits e = text_takes bytes x fits e
field_takes Raw bytes x fits e = raw_takes bytes x fits e
field_takes (Several s) bytes x fits e = several_takes (field_at s) (bytes_of_field s) (IsIn s) (field_takes s) bytes x fits e
field_takes (Boxed s) bytes x fits e = boxed_takes (field_at s) (bytes_of_field s) (IsIn s) (field_takes s) bytes x fits e
field_takes (s ▸ t) bytes x fits e = then_takes s t (field_takes s) (field_takes t) bytes x fits e

pub field_again : (s : Shape) → ReadsIt (field_at s) (bytes_of_field s) (IsIn s)
unfolding field_at bytes_of_field
field_again Nothing v rest fits = refl
field_again One v rest fits = number_again w8 (2 ^ 8) wide8 v rest fits
field_again Two v rest fits = number_again w16 (2 ^ 16) wide16 v rest fits
field_again Four v rest fits = number_again w32 (2 ^ 32) wide32 v rest fits
field_again Eight v rest fits = number_again w64 (2 ^ 64) wide64 v rest fits
field_again Text v rest fits = text_again v rest fits
field_again Raw v rest fits = raw_again v rest fits
field_again (Several s) v rest fits = several_again (field_at s) (bytes_of_field s) (IsIn s) (field_again s) v rest fits
field_again (Boxed s) v rest fits = boxed_again (field_at s) (bytes_of_field s) (IsIn s) (field_again s) v rest fits
field_again (s ▸ t) v rest fits =
    let regrouped : (bytes_of_field s v.0 ++ bytes_of_field t v.1) ++ rest ≡ bytes_of_field s v.0 ++ (bytes_of_field t v.1 ++ rest) =
    append_assoc (bytes_of_field s v.0) (bytes_of_field t v.1) rest in
    ap (field_at (s ▸ t)) regrouped ∙ rw (field_again s v.0 (bytes_of_field t v.1 ++ rest) fits.0, field_again t v.1 rest fits.1) refl
