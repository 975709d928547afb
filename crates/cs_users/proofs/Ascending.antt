-- Ascending numbers, and the places at which they are found.
use Rattle.std.proofs.Common.{◌≡◌, ℕ, zero, suc, ◌+◌, ◌<◌, ◌≤◌, ◌==◌, ◌||◌, Bool, true, false, Result, Ok, Err, List, [], ◌∷◌, length}
use Rattle.std.proofs.Common.{get_or, refl, sym, subst, ap, ◌∙◌, ⊎_elim, add-one, arith, Contains}
use Rattle.std.specs.Prelude.{nat_eq, is_ok}
use Rattle.std.specs.List.{dedup, filter, list_any, range_with_len}
use Rattle.std.specs.List.Sorted.{IsBinarySearchResult, IsPermutation, IsSorted, IsStrictlyIncreasing}
use Rattle.std.specs.Ordering.{nat_cmp}
use Rattle.std.proofs.lemmas.Bool.{cases_eq, cases_lt, eq-eqb, ne_eqb, eqb-true}
use Rattle.std.proofs.lemmas.Grind.{get_or_default_zero}
use Rattle.std.proofs.lemmas.List.Folds.{Any-from_list_any, list_any-from_Any, list_any_at, list_any_none}
use Rattle.std.proofs.lemmas.List.FromFn.{get_or-range_with_len, length-range_with_len}
use Rattle.std.proofs.lemmas.List.Kept.{AllPairs-from_increasing, Contains-dedup_nat, Contains-from_dedup, IsStrictlyIncreasing-filter}
use Rattle.std.proofs.lemmas.List.Sorted.{list_any-IsPermutation, searched}
use Rattle.std.proofs.lemmas.Map.Keys.{IsStrictlyIncreasing-dedup}

-- whether the numbers have this one
abbrev pub has : List ℕ → ℕ → Bool
has xs n = list_any (λ x. x == n) xs

-- the numbers ascend strictly, from a on
abbrev Ascends : ℕ → List ℕ → Type 0
Ascends a [] = Unit {0}
Ascends a (x ∷ xs) = (a ≤ x) × Ascends (x + 1) xs

ascends_from : (a x : ℕ) (xs : List ℕ) → a ≤ x → IsStrictlyIncreasing (x ∷ xs) → Ascends a (x ∷ xs)
ascends_from a x [] low up = (low, tt)
ascends_from a x (y ∷ ys) low up =
    let next : x < y = up 0 (omega arith) in
    (low, ascends_from (x + 1) y ys (omega arith) (λ k h. simp add-one (simp add-one at (up (suc k) (omega arith)))))

ascends_all : (xs : List ℕ) → IsStrictlyIncreasing xs → Ascends 0 xs
ascends_all [] up = tt
ascends_all (x ∷ xs) up = ascends_from 0 x xs (omega arith) up

none_below : (a n : ℕ) (xs : List ℕ) → Ascends a xs → n < a → has xs n ≡ false
none_below a n [] up low = refl
none_below a n (x ∷ xs) up low =
    let differs : (x == n) ≡ false = let h = up.0 in ne_eqb x n (omega arith) in
    rw differs (none_below (x + 1) n xs up.1 (let h = up.0 in omega arith))

same_head : (x : ℕ) (xs : List ℕ) → has (x ∷ xs) x ≡ true
same_head x xs = ap (λ b. b || has xs x) (eq-eqb x x refl)

other_head : (x n : ℕ) (xs : List ℕ) → x < n → has (x ∷ xs) n ≡ has xs n
other_head x n xs above = ap (λ b. b || has xs n) (ne_eqb x n (omega arith))

-- ascending numbers of a range that are just those that pass a test
is_filter : (p : ℕ → Bool) (count a : ℕ) (xs : List ℕ) → Ascends a xs
    → ((n : ℕ) → a + count ≤ n → has xs n ≡ false) → ((n : ℕ) → a ≤ n → n < a + count → has xs n ≡ p n)
    → xs ≡ filter p (range_with_len a count)
is_filter p zero a [] up past says = refl
is_filter p zero a (x ∷ xs) up past says = absurd (let none = past x (let h = up.0 in omega arith) in let one = same_head x xs in cc)
is_filter p (suc count) a [] up past says =
    let fails : p a ≡ false = sym (says a (omega arith) (omega arith)) in
    rw fails (is_filter p count (a + 1) [] tt (λ n h. refl) (λ n low high. says n (omega arith) (omega arith)))
is_filter p (suc count) a (x ∷ xs) up past says =
    ⊎_elim
    (λ (same : x ≡ a).
    let passes : p a ≡ true = sym (says a (omega arith) (omega arith)) ∙ subst (λ (n : ℕ). has (x ∷ xs) n ≡ true) same (same_head x xs) in
    let rest : Ascends (a + 1) xs = subst (λ (n : ℕ). Ascends (n + 1) xs) same up.1 in
    let others = is_filter p count (a + 1) xs rest
    (λ n h. sym (other_head x n xs (omega arith)) ∙ past n (omega arith))
    (λ n low high. sym (other_head x n xs (omega arith)) ∙ says n (omega arith) (omega arith)) in
    rw passes (ap (λ (m : ℕ). m ∷ xs) same ∙ ap (λ (ys : List ℕ). a ∷ ys) others))
    (λ (differs : x ≡ a → ⊥).
    let above : a + 1 ≤ x = let h = up.0 in omega arith in
    let fails : p a ≡ false = sym (says a (omega arith) (omega arith)) ∙ none_below (a + 1) a (x ∷ xs) (above, up.1) (omega arith) in
    rw fails (is_filter p count (a + 1) (x ∷ xs) (above, up.1) (λ n h. past n (omega arith))
    (λ n low high. says n (omega arith) (omega arith))))
    (cases_eq x a)

pub from_has : (xs : List ℕ) (n : ℕ) → has xs n ≡ true → Contains xs n
from_has xs n h = let a = Any-from_list_any (λ x. x == n) xs h in let same : a.1 ≡ n = eqb-true a.1 n a.4 in
    (a.0, a.2, subst (λ (m : ℕ). get_or xs a.0 m ≡ m) same a.3)

pub to_has : (xs : List ℕ) (n : ℕ) → Contains xs n → has xs n ≡ true
to_has xs n c = list_any-from_Any (λ x. x == n) xs (c.0, n, c.1, c.2, eq-eqb n n refl)

both_ways : (a b : Bool) → (a ≡ true → b ≡ true) → (b ≡ true → a ≡ true) → a ≡ b
both_ways true b there back = sym (there refl)
both_ways false true there back = back refl
both_ways false false there back = refl

-- numbers that were sorted, and of which each stays once, are those that there were
pub has-dedup : (xs sorted : List ℕ) (n : ℕ) → IsPermutation xs sorted → has (dedup nat_eq sorted) n ≡ has xs n
has-dedup xs sorted n moved =
    both_ways (has (dedup nat_eq sorted) n) (has sorted n)
    (λ h. to_has sorted n (Contains-from_dedup nat_eq sorted n (from_has (dedup nat_eq sorted) n h)))
    (λ h. to_has (dedup nat_eq sorted) n (Contains-dedup_nat sorted n (from_has sorted n h)))
    ∙ sym (list_any-IsPermutation (λ x. x == n) xs sorted moved)

-- sorted numbers, each of them once, that are just those below a bound that pass a test
pub dedup-filter : (p : ℕ → Bool) (count : ℕ) (xs sorted : List ℕ) → IsPermutation xs sorted → IsSorted nat_cmp sorted
    → ((n : ℕ) → count ≤ n → has xs n ≡ false) → ((n : ℕ) → n < count → has xs n ≡ p n)
    → dedup nat_eq sorted ≡ filter p (range_with_len 0 count)
dedup-filter p count xs sorted moved up past says =
    is_filter p count 0 (dedup nat_eq sorted) (ascends_all (dedup nat_eq sorted) (IsStrictlyIncreasing-dedup sorted up))
    (λ n h. has-dedup xs sorted n moved ∙ past n (omega arith))
    (λ n low high. has-dedup xs sorted n moved ∙ says n (omega arith))

range_increasing : (a count : ℕ) → IsStrictlyIncreasing (range_with_len a count)
range_increasing a count k h =
    let long = length-range_with_len a count in
    let this = get_or-range_with_len a count k 0 (omega arith) in
    let next = get_or-range_with_len a count (k + 1) 0 (omega arith) in
    omega arith

-- the numbers below a bound that pass a test ascend
pub filter_increasing : (p : ℕ → Bool) (count : ℕ) → IsStrictlyIncreasing (filter p (range_with_len 0 count))
filter_increasing p count = IsStrictlyIncreasing-filter p (range_with_len 0 count) (range_increasing 0 count)

-- each number below the bound is in the range
pub has-range : (count n : ℕ) → n < count → has (range_with_len 0 count) n ≡ true
has-range count n h =
    let at = get_or-range_with_len 0 count n 0 h in
    list_any_at (λ x. x == n) (range_with_len 0 count) n 0 (let long = length-range_with_len 0 count in omega arith)
    (eq-eqb (get_or (range_with_len 0 count) n 0) n (omega arith))

steady : (xs : List ℕ) → IsStrictlyIncreasing xs → (i j : ℕ) → i ≤ j → j < length xs → get_or xs i 0 ≤ get_or xs j 0
steady xs up i j order within =
    ⊎_elim
    (λ (same : i ≡ j). let e = ap (λ (k : ℕ). get_or xs k 0) same in omega arith)
    (λ (differs : i ≡ j → ⊥). let rises = AllPairs-from_increasing xs up i j 0 (omega arith) within in omega arith)
    (cases_eq i j)

missing : (xs : List ℕ) (n i : ℕ) → ((k : ℕ) → k < i → get_or xs k 0 < n) → ((k : ℕ) → i ≤ k → k < length xs → n < get_or xs k 0)
    → has xs n ≡ false
missing xs n i below above = list_any_none (λ x. x == n) xs (λ k d within.
    let same = get_or_default_zero xs k d within in
    ne_eqb (get_or xs k d) n (λ e. ⊎_elim
    (λ (low : k < i). let less = below k low in absurd (omega arith))
    (λ (high : i ≤ k). let more = above k high within in absurd (omega arith))
    (cases_lt k i)))

-- a search in numbers that ascend finds just those that are there
pub is_ok-searched : (xs : List ℕ) (n : ℕ) (r : Result ℕ ℕ) → IsStrictlyIncreasing xs → IsBinarySearchResult (λ x. nat_cmp x n) xs r
    → is_ok r ≡ has xs n
is_ok-searched xs n (Ok i) up told =
    let at = searched xs n (Ok i) told (steady xs up) in
    sym (to_has xs n (i, at.0, get_or_default_zero xs i n at.0 ∙ at.1))
is_ok-searched xs n (Err i) up told =
    let at = searched xs n (Err i) told (steady xs up) in
    sym (missing xs n i at.1 at.2)
