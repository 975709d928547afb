-- Reading one field after the other, as a loop does.
use Rattle.std.proofs.Common.{◌≡◌, ℕ, suc, ◌-◌, ◌+◌, ◌≤◌, ◌<◌, List, [], ◌∷◌, ◌++◌, Result, Ok, Err, refl, sym, ap, ◌∙◌, append_assoc}
use Rattle.std.proofs.Common.{arith}
use Rattle.std.proofs.lemmas.List.{append-nil}
use Rattle.cs_wire.specs.declared.fault.WireFault.{WireFault}
use Rattle.cs_wire.specs.Reading.{◌>>=◌, times_at}
use Rattle.cs_wire.specs.Answers.{IsFault}

abbrev pub Reader : Type 0 → Type 0
Reader A = List ℕ → Result (A × List ℕ) WireFault

-- what was read before, and what is still read
abbrev pub with_front : {A : Type 0} → List A → Result (List A × List ℕ) WireFault → Result (List A × List ℕ) WireFault
with_front front read = read >>= λ x. Ok (front ++ x.0, x.1)

regroup : {A : Type 0} (front : List A) (n : A) (read : Result (List A × List ℕ) WireFault)
    → with_front front (read >>= λ x. Ok (n ∷ x.0, x.1)) ≡ with_front (front ++ n ∷ []) read
regroup {A} front n (Ok x) = ap (λ (ns : List A). Ok (ns, x.1)) (simp append_assoc)
regroup front n (Err f) = refl

pub goes_on : {A : Type 0} (read : Reader A) (front : List A) (count i : ℕ) (bytes : List ℕ) (n : A) (rest : List ℕ)
    (total : Result (List A × List ℕ) WireFault) → i < count → read bytes ≡ Ok (n, rest)
    → with_front front (times_at read (count - i) bytes) ≡ total
    → with_front (front ++ n ∷ []) (times_at read (count - (i + 1)) rest) ≡ total
unfolding times_at
goes_on read front count i bytes n rest total lt h so_far =
    let k : count - i ≡ suc (count - (i + 1)) = omega arith in
    let one : with_front front (times_at read (count - i) bytes) ≡ with_front (front ++ n ∷ []) (times_at read (count - (i + 1)) rest) =
    rw (k, h) (regroup front n (times_at read (count - (i + 1)) rest)) in
    sym one ∙ so_far

fails_first : {A : Type 0} (read : Reader A) (front : List A) (count i : ℕ) (bytes : List ℕ) (e : WireFault)
    (total : Result (List A × List ℕ) WireFault) → i < count → read bytes ≡ Err e
    → with_front front (times_at read (count - i) bytes) ≡ total → total ≡ Err e
unfolding times_at
fails_first {A} read front count i bytes e total lt h so_far =
    let k : count - i ≡ suc (count - (i + 1)) = omega arith in
    let one : with_front front (times_at read (count - i) bytes) ≡ Err e = rw (k, h) refl in
    sym so_far ∙ one

pub ends : {A : Type 0} (read : Reader A) (e : WireFault) (front : List A) (count i : ℕ) (bytes : List ℕ)
    (total : Result (List A × List ℕ) WireFault) → i < count → IsFault e (read bytes)
    → with_front front (times_at read (count - i) bytes) ≡ total → IsFault e total
ends read e front count i bytes total lt h so_far = (fails_first read front count i bytes e total lt h.0 so_far, h.1)

pub is_done : {A : Type 0} (read : Reader A) (front : List A) (count i : ℕ) (bytes : List ℕ) (total : Result (List A × List ℕ) WireFault)
    → count ≤ i → with_front front (times_at read (count - i) bytes) ≡ total → total ≡ Ok (front, bytes)
unfolding times_at
is_done {A} read front count i bytes total le so_far =
    let k : count - i ≡ 0 = omega arith in
    let one : with_front front (times_at read (count - i) bytes) ≡ Ok (front, bytes) =
    rw k (ap (λ (ns : List A). Ok (ns, bytes)) (append-nil front)) in
    sym so_far ∙ one
