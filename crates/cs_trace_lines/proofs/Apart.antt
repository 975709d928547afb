-- Files that have some parts.
use Rattle.std.proofs.Common.{◌≡◌, ⊎_elim, ℕ, suc, ◌+◌, ◌<◌, ◌≤◌, true, false, List, [], ◌∷◌, length, map, drop, fold}
use Rattle.std.proofs.Common.{sym, ap, ◌∙◌, arith, length-append, length-drop, replicate, get_or}
use Rattle.std.proofs.Math.Seq.{drop-cons}
use Rattle.std.proofs.lemmas.Bool.{cases_Bool, false≢true}
use Rattle.std.proofs.lemmas.List.{length-replicate, length-take}
use Rattle.std.proofs.lemmas.Bool.Decides.{nat_tests}
use Rattle.std.specs.Prelude.{◌&&◌}
use Rattle.cs_trace_lines.specs.Sparse.{Part, are_apart, end_of, laid_out, lies_between, with_part}

-- the first of the parts that are left, and those behind it
pub apart_next : (from count : ℕ) (p : Part) (ps : List Part) → lies_between from count p ≡ true
    → are_apart from count (p ∷ ps) ≡ are_apart (end_of p) count ps
apart_next from count p ps is = ap (λ b. b && are_apart (end_of p) count ps) is

pub none_apart : (from count : ℕ) (p : Part) (ps : List Part) → lies_between from count p ≡ false
    → are_apart from count (p ∷ ps) ≡ false
none_apart from count p ps is = ap (λ b. b && are_apart (end_of p) count ps) is

-- a list from a place on has what is at the place, and then the list behind it
pub map_from : {A : Type 0} (f : A → Part) (xs : List A) (k : ℕ) (x : A) → k < length xs → x ≡ get_or xs k x
    → map f (drop k xs) ≡ f x ∷ map f (drop (k + 1) xs)
map_from f xs k x low is =
    let next : suc k ≡ k + 1 = omega arith in
    ap (map f) (drop-cons xs k x low ∙ ap (λ y. y ∷ drop (suc k) xs) (sym is)) ∙ ap (λ n. f x ∷ map f (drop n xs)) next

-- the bytes of a part in their place make no file longer
pub length-with_part : (bytes : List ℕ) (p : Part) → end_of p ≤ length bytes → length (with_part bytes p) ≡ length bytes
length-with_part bytes p low =
    omega (arith, length-append {A = ℕ}, length-take {A = ℕ}, length-drop {A = ℕ}, low)

length-fold : (parts : List Part) (from count : ℕ) (bytes : List ℕ) → length bytes ≡ count → are_apart from count parts ≡ true
    → length (fold with_part bytes parts) ≡ count
length-fold [] from count bytes long is = long
length-fold (p ∷ ps) from count bytes long is = ⊎_elim
    (λ (fits : lies_between from count p ≡ true).
    length-fold ps (end_of p) count (with_part bytes p)
    (length-with_part bytes p (ends from count p bytes long fits) ∙ long) (sym (apart_next from count p ps fits) ∙ is))
    (λ (out : lies_between from count p ≡ false). absurd (false≢true (sym (none_apart from count p ps out) ∙ is)))
    (cases_Bool (lies_between from count p))
  where
    ends : (from count : ℕ) (p : Part) (bytes : List ℕ) → length bytes ≡ count → lies_between from count p ≡ true → end_of p ≤ length bytes
    ends from count p bytes long fits = grind (arith, nat_tests)

-- a file has as many bytes as it says
pub length-laid_out : (count : ℕ) (parts : List Part) → are_apart 0 count parts ≡ true → length (laid_out count parts) ≡ count
unfolding laid_out
length-laid_out count parts is = length-fold parts 0 count (replicate count 0) (length-replicate count 0) is
