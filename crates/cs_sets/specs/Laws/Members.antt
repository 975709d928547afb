-- What a set has after a choice.
use Rattle.std.proofs.Common.{◌≡◌, ℕ, suc, ◌+◌, ◌<◌, ◌≤◌, ◌==◌, ◌&&◌, ◌||◌, not, Bool, true, false}
use Rattle.std.proofs.Common.{List, [], ◌∷◌, ◌++◌, refl, sym, ap, ◌∙◌, arith, ⊎_elim, length, get_or}
use Rattle.std.proofs.lemmas.Bool.{cases_Bool, false≢true, eq-eqb, ne_eqb, eqb-true, or_cases, or_left, or_right, false_from_ne_true}
use Rattle.std.proofs.lemmas.List.{get_or_default}
use Rattle.std.proofs.lemmas.List.Folds.{list_any-append, list_any_at, list_all-append}
use Rattle.std.specs.List.{Contains, list_all, range_with_len}
use Rattle.cs_sets.specs.Sets.{IsAllowed, is_member}
use Rattle.cs_sets.specs.Every.{may}
use Rattle.cs_sets.specs.Laws.Lists.{range_more, all_of_range, at_of_range, all_same}

pub or_false : (b : Bool) → (b || false) ≡ b
or_false true = refl
or_false false = refl

pub found_has : (places : List ℕ) (i : ℕ) → is_member places i ≡ true → (k : ℕ)
    × (k < length places) × (get_or places k 0 ≡ i)
found_has [] i h = absurd (false≢true h)
found_has (j ∷ js) i h = ⊎_elim
    (λ (t : (j == i) ≡ true). (0, omega arith, eqb-true j i t))
    (λ (t : is_member js i ≡ true). (let rest = found_has js i t in
    (suc rest.0, (let l = rest.1 in omega (arith, l)), rest.2)))
    (or_cases (j == i) (is_member js i) h)

pub contains_has : (places : List ℕ) (i : ℕ) → Contains places i → is_member places i ≡ true
contains_has places i c = list_any_at (λ j. j == i) places c.0 i c.1
    (eq-eqb (get_or places c.0 i) i c.2)

pub has_contains : (places : List ℕ) (i : ℕ) → is_member places i ≡ true → Contains places i
has_contains places i h =
    let w = found_has places i h in (w.0, w.1, get_or_default places w.0 i 0 w.1 ∙ w.2)

pub member_push : (places : List ℕ) (k i : ℕ) → is_member (places ++ k ∷ []) i
    ≡ (is_member places i || (k == i))
member_push places k i = list_any-append (λ j. j == i) places (k ∷ [])
    ∙ ap (λ b. is_member places i || b) (or_false (k == i))

pub member_other : (places : List ℕ) (k i : ℕ) → (k ≡ i → ⊥) → is_member (places ++ k ∷ []) i
    ≡ is_member places i
member_other places k i ne = member_push places k i
    ∙ ap (λ b. is_member places i || b) (ne_eqb k i ne) ∙ or_false (is_member places i)

pub member_last : (places : List ℕ) (k : ℕ) → is_member (places ++ k ∷ []) k ≡ true
member_last places k = member_push places k k ∙ or_right (is_member places k) (k == k)
    (eq-eqb k k refl)

-- all members are below k
abbrev pub IsBelow : ℕ → List ℕ → Type 0
IsBelow k places = (i : ℕ) → is_member places i ≡ true → i < k

pub not_member : (k i : ℕ) (places : List ℕ) → IsBelow k places → k ≤ i → is_member places i ≡ false
not_member k i places below high = false_from_ne_true (is_member places i)
    (λ t. let l = below i t in omega (arith, l, high))

pub allowed_below : (needs : ℕ → ℕ → Bool) (k : ℕ) (places : List ℕ) → IsAllowed needs k places
    → IsBelow k places
allowed_below needs k places allowed i t =
    let w = found_has places i t in let l = allowed.in_range w.0 w.1 in let e = w.2 in omega
    (arith, l, e)

-- ---- what a place needs

pub may_from : (needs : ℕ → ℕ → Bool) (k : ℕ) (places : List ℕ) (j : ℕ)
    → ((i : ℕ) → i < k → needs i j ≡ true → is_member places i ≡ true) → may needs k places j ≡ true
unfolding may
may_from needs k places j h = all_of_range (λ i. not (needs i j) || is_member places i) 0 k
    (λ i l u. ⊎_elim
    (λ (t : needs i j ≡ true). or_right (not (needs i j)) (is_member places i)
    (h i (omega (arith, u)) t))
    (λ (f : needs i j ≡ false). or_left (not (needs i j)) (is_member places i) (ap not f))
    (cases_Bool (needs i j)))

pub may_says : (needs : ℕ → ℕ → Bool) (k : ℕ) (places : List ℕ) (j i : ℕ) → may needs k places j
    ≡ true → i < k
    → needs i j ≡ true → is_member places i ≡ true
unfolding may
may_says needs k places j i is low t =
    sym (ap (λ b. not b || is_member places i) t)
    ∙ at_of_range (λ i. not (needs i j) || is_member places i) 0 k i is (omega arith)
    (omega (arith, low))

-- one place more is decided
may_next : (needs : ℕ → ℕ → Bool) (k : ℕ) (places : List ℕ) (j : ℕ)
    → may needs (k + 1) places j ≡ (may needs k places j && (not (needs k j) || is_member places k))
unfolding may
may_next needs k places j =
    let p : ℕ → Bool = λ i. not (needs i j) || is_member places i in
    ap (list_all p) (range_more k) ∙ list_all-append p (range_with_len 0 k) (k ∷ [])
    ∙ ap (λ b. list_all p (range_with_len 0 k) && b)
    (and_true (p k))
  where
    and_true : (b : Bool) → (b && true) ≡ b
    and_true true = refl
    and_true false = refl

pub may_without : (needs : ℕ → ℕ → Bool) (k : ℕ) (places : List ℕ) (j : ℕ) → IsBelow k places
    → may needs (k + 1) places j ≡ (may needs k places j && not (needs k j))
may_without needs k places j below =
    may_next needs k places j ∙ ap (λ b. may needs k places j && (not (needs k j) || b))
    (not_member k k places below (omega arith))
    ∙ ap (λ b. may needs k places j && b) (or_false (not (needs k j)))

may_kept : (needs : ℕ → ℕ → Bool) (k : ℕ) (places : List ℕ) (j : ℕ)
    → may needs k (places ++ k ∷ []) j ≡ may needs k places j
unfolding may
may_kept needs k places j =
    all_same (λ i. not (needs i j) || is_member (places ++ k ∷ []) i)
    (λ i. not (needs i j) || is_member places i) 0 k
    (λ i l u. ap (λ b. not (needs i j) || b) (member_other places k i (λ e. omega (arith, u, e))))

pub may_with : (needs : ℕ → ℕ → Bool) (k : ℕ) (places : List ℕ) (j : ℕ)
    → may needs (k + 1) (places ++ k ∷ []) j ≡ may needs k places j
may_with needs k places j =
    may_next needs k (places ++ k ∷ []) j
    ∙ ap (λ b. may needs k (places ++ k ∷ []) j && (not (needs k j) || b)) (member_last places k)
    ∙ ap (λ b. may needs k (places ++ k ∷ []) j && b) (or_right (not (needs k j)) true refl)
    ∙ and_true (may needs k (places ++ k ∷ []) j) ∙ may_kept needs k places j
  where
    and_true : (b : Bool) → (b && true) ≡ b
    and_true true = refl
    and_true false = refl
