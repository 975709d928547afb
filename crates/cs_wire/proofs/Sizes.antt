-- Sizes of lists, as a loop adds them up, and the size of a field, which is the length of its spelling.
use Rattle.std.proofs.Common.{◌≡◌, ℕ, ◌+◌, ◌≤◌, ◌<◌, ◌^◌, Bool, true, false, cond, ltb, ◌&&◌, Option, Some, None, List, [], ◌∷◌, length}
use Rattle.std.proofs.Common.{map, drop, get_or, refl, sym, ap, ◌∙◌, add-one, drop-cons, arith}
use Rattle.std.specs.Int.{w16, w32, to_le_bytes}
use Rattle.std.specs.List.{flat_map, AllByRecursion}
use Rattle.std.proofs.lemmas.Bool.{lt-ltb, ltb-true, le-ltb, ltb-false, and_parts}
use Rattle.std.proofs.lemmas.List.{length-append, length-drop, nil_from_length}
use Rattle.std.proofs.lemmas.List.Concat.{flat_map-cons}
use Rattle.std.proofs.lemmas.Option.{cond_some}
use Rattle.cs_wire.specs.Fields.{Shape, Nothing, One, Two, Four, Eight, Text, Raw, Several, Boxed, ◌▸◌, Value, is_text, entry}
use Rattle.cs_wire.specs.Fields.{bytes_of_field, IsIn, sum_if_both, number_if, sizes_of, entry_size, size_of}

-- ---- in a loop

-- the items from the i-th on
pub item_cut : {A : Type 0} (xs : List A) (i : ℕ) (x : A) → i < length xs → x ≡ get_or xs i x → drop i xs ≡ x ∷ drop (i + 1) xs
item_cut xs i x lt is = drop-cons xs i x lt ∙ rw (add-one, ← is) refl

pub copy_cut : {A : Type 0} (xs : List A) (i : ℕ) (d : A) → i < length xs → drop i xs ≡ get_or xs i d ∷ drop (i + 1) xs
copy_cut xs i d lt = drop-cons xs i d lt ∙ rw add-one refl

plus_more : (total n : ℕ) (rest : Option ℕ) → sum_if_both (Some (total + n)) rest ≡ sum_if_both (Some total) (sum_if_both (Some n) rest)
plus_more total n (Some m) = ap (λ (k : ℕ). Some k) (omega arith)
plus_more total n None = refl

pub adds : {A B : Type 0} (size : B → Option ℕ) (view : A → B) (xs ys : List A) (total n : ℕ) (x : A) (all : Option ℕ) → xs ≡ x ∷ ys
    → size (view x) ≡ Some n
    → sum_if_both (Some total) (sizes_of size (map view xs)) ≡ all → sum_if_both (Some (total + n)) (sizes_of size (map view ys)) ≡ all
unfolding sizes_of
adds size view xs ys total n x all cut has so_far =
    let rest = sizes_of size (map view ys) in
    let one : sizes_of size (map view xs) ≡ sum_if_both (Some n) rest =
    ap (λ zs. sizes_of size (map view zs)) cut ∙ ap (λ (s : Option ℕ). sum_if_both s rest) has in
    plus_more total n rest ∙ ap (sum_if_both (Some total)) (sym one) ∙ so_far

pub fails : {A B : Type 0} (size : B → Option ℕ) (view : A → B) (xs ys : List A) (total : ℕ) (x : A) (all : Option ℕ) → xs ≡ x ∷ ys
    → size (view x) ≡ None
    → sum_if_both (Some total) (sizes_of size (map view xs)) ≡ all → None ≡ all
unfolding sizes_of
fails size view xs ys total x all cut has so_far =
    let rest = sizes_of size (map view ys) in
    let one : sizes_of size (map view xs) ≡ None =
    ap (λ zs. sizes_of size (map view zs)) cut ∙ ap (λ (s : Option ℕ). sum_if_both s rest) has in
    ap (sum_if_both (Some total)) (sym one) ∙ so_far

pub all_added : {A B : Type 0} (size : B → Option ℕ) (view : A → B) (xs : List A) (i total : ℕ) (all : Option ℕ) → length xs ≤ i
    → sum_if_both (Some total) (sizes_of size (map view (drop i xs))) ≡ all → Some total ≡ all
unfolding sizes_of
all_added size view xs i total all le so_far =
    let nothing : drop i xs ≡ [] = nil_from_length (drop i xs) (omega (arith, length-drop i xs)) in
    let last : sum_if_both (Some total) (sizes_of size (map view (drop i xs))) ≡ Some total =
    ap (λ zs. sum_if_both (Some total) (sizes_of size (map view zs))) nothing ∙ ap (λ (k : ℕ). Some k) (omega arith) in
    sym last ∙ so_far

-- ---- every shape

some_is : (n m : ℕ) → n ≡ m → Some n ≡ Some m
some_is n m e = ap (λ (k : ℕ). Some k) e

pub plus_some : (r : Option ℕ) (s : Option ℕ) (n m : ℕ) → r ≡ Some n → s ≡ Some m → sum_if_both r s ≡ Some (n + m)
plus_some r s n m p q = rw (p, q) refl

pub plus_parts : (r s : Option ℕ) (k : ℕ) → sum_if_both r s ≡ Some k → (n : ℕ) × (m : ℕ) × (r ≡ Some n) × (s ≡ Some m)
plus_parts (Some n) (Some m) k e = (n, m, refl, refl)
plus_parts (Some n) None k e = absurd cc
plus_parts None s k e = absurd cc

sizes_some : {A : Type 0} (size : A → Option ℕ) (spell : A → List ℕ) (IsGood : A → Type 0)
    → ((v : A) → IsGood v → size v ≡ Some (length (spell v))) → (vs : List A) → AllByRecursion IsGood vs
    → sizes_of size vs ≡ Some (length (flat_map spell vs))
unfolding sizes_of
sizes_some size spell IsGood law [] fits = refl
sizes_some size spell IsGood law (v ∷ vs) fits =
    plus_some (size v) (sizes_of size vs) (length (spell v)) (length (flat_map spell vs)) (law v fits.0)
    (sizes_some size spell IsGood law vs fits.1) ∙ some_is _ _
    (sym (ap length (flat_map-cons spell v vs) ∙ length-append (spell v) (flat_map spell vs)))

sizes_only : {A : Type 0} (size : A → Option ℕ) (IsGood : A → Type 0) → ((v : A) (n : ℕ) → size v ≡ Some n → IsGood v)
    → (vs : List A) (n : ℕ) → sizes_of size vs ≡ Some n → AllByRecursion IsGood vs
unfolding sizes_of
sizes_only size IsGood law [] n e = tt
sizes_only size IsGood law (v ∷ vs) n e =
    let p = plus_parts (size v) (sizes_of size vs) n e in
    (law v p.0 p.2, sizes_only size IsGood law vs p.1 p.3)

pub number_some : (v limit n : ℕ) → v < limit → number_if (ltb v limit) n ≡ Some n
number_some v limit n lt = rw (lt-ltb v limit lt) refl

number_only : (v limit n m : ℕ) → number_if (ltb v limit) n ≡ Some m → v < limit
number_only v limit n m e = ltb-true v limit (cond_some (ltb v limit) n m e).0

few_some : (n : ℕ) (r : Option ℕ) (m : ℕ) → n ≤ 16 → r ≡ Some m → cond (ltb 16 n) None r ≡ Some m
few_some n r m le e = rw (le-ltb 16 n le) e

few_only_by : (b : Bool) (r : Option ℕ) (m : ℕ) → cond b None r ≡ Some m → (b ≡ false) × (r ≡ Some m)
few_only_by true r m e = absurd cc
few_only_by false r m e = (refl, e)

entry_parts : (r : Option ℕ) (m : ℕ) → entry_size r ≡ Some m → (n : ℕ) × (r ≡ Some n) × (n + 2 < 65536)
entry_parts (Some n) m e = (n, refl, number_only (n + 2) 65536 (n + 2) m e)
entry_parts None m e = absurd cc

pub entry_len : (fields : List ℕ) → length (entry fields) ≡ length fields + 2
entry_len fields = omega (arith, length-append (to_le_bytes w16 (length fields)) fields)

pub size_some : (s : Shape) (v : Value s) → IsIn s v → size_of s v ≡ Some (length (bytes_of_field s v))
unfolding size_of bytes_of_field
size_some Nothing v fits = refl
size_some One v fits = number_some v (2 ^ 8) 1 fits
size_some Two v fits = number_some v (2 ^ 16) 2 fits
size_some Four v fits = number_some v (2 ^ 32) 4 fits
size_some Eight v fits = number_some v (2 ^ 64) 8 fits
size_some Text v fits =
    rw (lt-ltb (length v) (2 ^ 16) fits.0, fits.1) (some_is _ _ (omega (arith, length-append (to_le_bytes w16 (length v)) v)))
size_some Raw v fits =
    number_some (length v) (2 ^ 32) (length v + 4) fits ∙ some_is _ _ (omega (arith, length-append (to_le_bytes w32 (length v)) v))
size_some (Several s) v fits =
    few_some (length v) (sum_if_both (Some 2) (sizes_of (size_of s) v)) _ fits.0
    (plus_some (Some 2) (sizes_of (size_of s) v) 2 (length (flat_map (bytes_of_field s) v)) refl
    (sizes_some (size_of s) (bytes_of_field s) (IsIn s) (size_some s) v fits.1)) ∙ some_is _ _
    (omega (arith, length-append (to_le_bytes w16 (length v)) (flat_map (bytes_of_field s) v)))
size_some (Boxed s) v fits =
    let inner = size_some s v fits.0 in
    let len = entry_len (bytes_of_field s v) in
    let small : length (bytes_of_field s v) + 2 < 65536 = omega (arith, len, fits.1) in
    ap (λ (r : Option ℕ). sum_if_both (Some 2) (entry_size r)) inner ∙ ap (sum_if_both (Some 2))
    (number_some (length (bytes_of_field s v) + 2) 65536 (length (bytes_of_field s v) + 2) small) ∙ some_is _ _
    (omega (arith, len, length-append (to_le_bytes w16 (length (entry (bytes_of_field s v)))) (entry (bytes_of_field s v))))
size_some (s ▸ t) v fits =
    plus_some (size_of s v.0) (size_of t v.1) (length (bytes_of_field s v.0)) (length (bytes_of_field t v.1)) (size_some s v.0 fits.0)
    (size_some t v.1 fits.1) ∙ some_is _ _ (sym (length-append (bytes_of_field s v.0) (bytes_of_field t v.1)))

pub size_only : (s : Shape) (v : Value s) (n : ℕ) → size_of s v ≡ Some n → IsIn s v
unfolding size_of bytes_of_field
size_only Nothing v n e = tt
size_only One v n e = number_only v (2 ^ 8) 1 n e
size_only Two v n e = number_only v (2 ^ 16) 2 n e
size_only Four v n e = number_only v (2 ^ 32) 4 n e
size_only Eight v n e = number_only v (2 ^ 64) 8 n e
size_only Text v n e =
    let p = and_parts (ltb (length v) (2 ^ 16)) (is_text v) (cond_some (ltb (length v) (2 ^ 16) && is_text v) (length v + 2) n e).0 in
    (ltb-true (length v) (2 ^ 16) p.0, p.1)
size_only Raw v n e = number_only (length v) (2 ^ 32) (length v + 4) n e
size_only (Several s) v n e =
    let p = few_only_by (ltb 16 (length v)) (sum_if_both (Some 2) (sizes_of (size_of s) v)) n e in
    let q = plus_parts (Some 2) (sizes_of (size_of s) v) n p.1 in
    (ltb-false 16 (length v) p.0, sizes_only (size_of s) (IsIn s) (size_only s) v q.1 q.3)
size_only (Boxed s) v n e =
    let p = plus_parts (Some 2) (entry_size (size_of s v)) n e in
    let q = entry_parts (size_of s v) p.1 p.3 in
    let fits = size_only s v q.0 q.1 in
    let same : Some (length (bytes_of_field s v)) ≡ Some q.0 = sym (size_some s v fits) ∙ q.1 in
    let len : length (bytes_of_field s v) ≡ q.0 = cc in
    (fits, omega (arith, entry_len (bytes_of_field s v), len, q.2))
size_only (s ▸ t) v n e =
    let p = plus_parts (size_of s v.0) (size_of t v.1) n e in
    (size_only s v.0 p.0 p.2, size_only t v.1 p.1 p.3)
