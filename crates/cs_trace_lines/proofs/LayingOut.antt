-- All bytes of a file that has some parts, put in their places one after another.
use Rattle.std.proofs.Common.{◌≡◌, ⊎_elim, ℕ, zero, suc, ◌+◌, ◌<◌, ◌≤◌, true, false, List, [], ◌∷◌, ◌++◌, length, map}
use Rattle.std.proofs.Common.{sym, ap, ◌∙◌, refl, arith, fold, take, drop, get_or, subst}
use Rattle.std.proofs.lemmas.Bool.{cases_Bool, false≢true}
use Rattle.std.proofs.lemmas.Bool.Decides.{nat_tests}
use Rattle.std.proofs.lemmas.Grind.{fold-append}
use Rattle.std.proofs.lemmas.List.{map-append, take_at, take_more}
use Rattle.cs_trace_lines.specs.Sparse.{Part, are_apart, end_of, lies_between, with_part}
use Rattle.cs_trace_lines.proofs.Apart.{apart_next, length-with_part, none_apart}

ends : (from count : ℕ) (p : Part) → lies_between from count p ≡ true → end_of p ≤ count
ends from count p fits = grind (arith, nat_tests)

-- each part ends at the end of the file at the latest
pub end_at : {A : Type 0} (f : A → Part) (xs : List A) (from count k : ℕ) (x : A) → are_apart from count (map f xs) ≡ true
    → k < length xs → x ≡ get_or xs k x → end_of (f x) ≤ count
end_at f [] from count k x apart low is = absurd (omega (arith, low))
end_at f (y ∷ ys) from count zero x apart low is = ⊎_elim
    (λ (fits : lies_between from count (f y) ≡ true). subst (λ z. end_of (f z) ≤ count) (sym is) (ends from count (f y) fits))
    (λ (out : lies_between from count (f y) ≡ false).
    absurd (false≢true (sym (none_apart from count (f y) (map f ys) out) ∙ apart)))
    (cases_Bool (lies_between from count (f y)))
end_at f (y ∷ ys) from count (suc n) x apart low is = ⊎_elim
    (λ (fits : lies_between from count (f y) ≡ true).
    end_at f ys (end_of (f y)) count n x (sym (apart_next from count (f y) (map f ys) fits) ∙ apart) (omega (arith, low)) is)
    (λ (out : lies_between from count (f y) ≡ false).
    absurd (false≢true (sym (none_apart from count (f y) (map f ys) out) ∙ apart)))
    (cases_Bool (lies_between from count (f y)))

-- one part more
pub laid_more : {A : Type 0} (f : A → Part) (xs : List A) (k : ℕ) (x : A) (bytes : List ℕ) → k < length xs → x ≡ get_or xs k x
    → fold with_part bytes (map f (take (k + 1) xs)) ≡ with_part (fold with_part bytes (map f (take k xs))) (f x)
laid_more f xs k x bytes low is =
    ap (λ ys. fold with_part bytes (map f ys)) (take_more xs k x low ∙ ap (λ y. take k xs ++ y ∷ []) (sym is))
    ∙ ap (fold with_part bytes) (map-append f (take k xs) (x ∷ []))
    ∙ fold-append with_part bytes (map f (take k xs)) (f x ∷ [])

-- what was lent is back whole
pub put_back : (left old : List ℕ) (count : ℕ) → length left ≡ length old → count ≡ length old
    → take count (left ++ drop (length left) old) ≡ left
put_back left old count same long = take_at left (drop (length left) old) count (same ∙ sym long)
