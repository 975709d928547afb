-- Each set of a plan is allowed.
use Rattle.std.proofs.Common.{◌≡◌, ℕ, zero, suc, ◌+◌, ◌<◌, ◌≤◌, ◌==◌, ◌||◌, ◌&&◌, not, cond, Bool, true, false, List, [], ◌∷◌, length, map}
use Rattle.std.proofs.Common.{get_or, refl, sym, ap, ◌∙◌, subst, ⊎_elim, arith}
use Rattle.std.proofs.lemmas.Bool.{cases_eq, cases_Bool, false≢true, or_parts, not-true, and_from}
use Rattle.std.proofs.lemmas.List.{get_or_default}
use Rattle.std.proofs.lemmas.List.Elements.{All-append, All-map, All-cons, All-nil, All-filter}
use Rattle.std.specs.List.{range_with_len, filter, flat_map, All}
use Rattle.cs_plan.specs.declared.recipe.Recipe.{Recipe}
use Rattle.cs_plan.specs.declared.recipe.Recipe.TheVariants.{Prefix, Hole, Pick}
use Rattle.cs_sets.specs.Chains.{by_chain, IsBackward}
use Rattle.cs_sets.specs.Sets.{IsAllowed}
use Rattle.cs_plan.specs.Plans.{families, places_of_hole, holes_at, holes_of, IsWithin, is_kept, prefixes, recipes_of, set_of}
use Rattle.cs_sets.specs.Laws.Chains.{chain_step, any_at}

-- a filter of a range, in order
pub record IsPicked (p : ℕ → Bool) (a n : ℕ) (xs : List ℕ) : Type 0 where
  pub ascending : (x y : ℕ) → x < y → y < length xs → get_or xs x 0 < get_or xs y 0
  pub low : (x : ℕ) → x < length xs → a ≤ get_or xs x 0
  pub high : (x : ℕ) → x < length xs → get_or xs x 0 < a + n
  pub passes : (x : ℕ) → x < length xs → p (get_or xs x 0) ≡ true
  pub has_all : (k : ℕ) → a ≤ k → k < a + n → p k ≡ true → (x : ℕ) × ((x < length xs) × (get_or xs x 0 ≡ k))

with_first : (p : ℕ → Bool) (a n : ℕ) (xs : List ℕ) → p a ≡ true → IsPicked p (a + 1) n xs → IsPicked p a (suc n) (a ∷ xs)
with_first p a n xs is rest = record {
  ascending = up;
  low = from;
  high = to;
  passes = pass;
  has_all = λ k l h t. ⊎_elim
      (λ (e : k ≡ a). (0, (omega arith, sym e)))
      (λ (e : k ≡ a → ⊥). let w = rest.has_all k (omega (arith, l, e)) (omega (arith, h)) t in (suc w.0, (omega (arith, w.1.0), w.1.1)))
      (cases_eq k a);
}
  where
    up : (x y : ℕ) → x < y → y < length (a ∷ xs) → get_or (a ∷ xs) x 0 < get_or (a ∷ xs) y 0
    up x zero l h = absurd (omega (arith, l))
    up zero (suc y) l h = let b = rest.low y (omega (arith, h)) in omega (arith, b)
    up (suc x) (suc y) l h = rest.ascending x y (omega (arith, l)) (omega (arith, h))

    from : (x : ℕ) → x < length (a ∷ xs) → a ≤ get_or (a ∷ xs) x 0
    from zero h = omega arith
    from (suc x) h = let b = rest.low x (omega (arith, h)) in omega (arith, b)

    to : (x : ℕ) → x < length (a ∷ xs) → get_or (a ∷ xs) x 0 < a + suc n
    to zero h = omega arith
    to (suc x) h = let b = rest.high x (omega (arith, h)) in omega (arith, b)

    pass : (x : ℕ) → x < length (a ∷ xs) → p (get_or (a ∷ xs) x 0) ≡ true
    pass zero h = is
    pass (suc x) h = rest.passes x (omega (arith, h))

without_first : (p : ℕ → Bool) (a n : ℕ) (xs : List ℕ) → p a ≡ false → IsPicked p (a + 1) n xs → IsPicked p a (suc n) xs
without_first p a n xs is rest = record {
  ascending = rest.ascending;
  low = λ x h. let b = rest.low x h in omega (arith, b);
  high = λ x h. let b = rest.high x h in omega (arith, b);
  passes = rest.passes;
  has_all = λ k l h t. ⊎_elim
      (λ (e : k ≡ a). absurd (false≢true (sym is ∙ ap p (sym e) ∙ t)))
      (λ (e : k ≡ a → ⊥). rest.has_all k (omega (arith, l, e)) (omega (arith, h)) t)
      (cases_eq k a);
}

pub picked : (p : ℕ → Bool) (a n : ℕ) → IsPicked p a n (filter p (range_with_len a n))
picked p a zero = record {
  ascending = λ x y l h. absurd (omega (arith, h));
  low = λ x h. absurd (omega (arith, h));
  high = λ x h. absurd (omega (arith, h));
  passes = λ x h. absurd (omega (arith, h));
  has_all = λ k l h t. absurd (omega (arith, l, h));
}
picked p a (suc n) = ⊎_elim
    (λ (t : p a ≡ true). subst
    (λ b. IsPicked p a (suc n) (cond b (a ∷ filter p (range_with_len (a + 1) n)) (filter p (range_with_len (a + 1) n)))) (sym t)
    (with_first p a n _ t (picked p (a + 1) n)))
    (λ (t : p a ≡ false). subst
    (λ b. IsPicked p a (suc n) (cond b (a ∷ filter p (range_with_len (a + 1) n)) (filter p (range_with_len (a + 1) n)))) (sym t)
    (without_first p a n _ t (picked p (a + 1) n)))
    (cases_Bool (p a))

-- a filter of the first places is allowed if it keeps what its places need
pub kept_allowed : (needs : ℕ → ℕ → Bool) (n j : ℕ) (p : ℕ → Bool) → IsBackward needs → j ≤ n
    → ((i k : ℕ) → needs i k ≡ true → p k ≡ true → p i ≡ true) → IsAllowed needs n (filter p (range_with_len 0 j))
kept_allowed needs n j p back few keeps =
    let w = picked p 0 j in
    record {
      ascending = w.ascending;
      in_range = λ a h. let b = w.high a h in omega (arith, b, few);
      closed = λ a i h t.
          let b = w.high a h in
          let low = back i _ t in
          let found = w.has_all i (omega arith) (omega (arith, b, low)) (keeps i _ t (w.passes a h)) in
          (found.0, found.1.0, get_or_default _ found.0 i 0 found.1.0 ∙ found.1.1);
    }

-- what a kept place needs is kept
pub hole_keeps : (needs : ℕ → ℕ → Bool) → IsBackward needs → (i m k : ℕ) → needs m k ≡ true → is_kept needs i k ≡ true
    → is_kept needs i m ≡ true
hole_keeps needs back i m k is kept =
    let parts = or_parts (i == k) (by_chain needs i k) (not-true (i == k || by_chain needs i k) kept) in
    ⊎_elim
    (λ (t : (i == m || by_chain needs i m) ≡ true).
    let q = λ (v : ℕ). needs v k && (i == v || by_chain needs i v) in
    absurd (false≢true
    (sym parts.1 ∙ (chain_step needs i k ∙ any_at q m k (back m k is) (and_from (needs m k) (i == m || by_chain needs i m) is t)))))
    (λ (t : (i == m || by_chain needs i m) ≡ false). ap not t)
    (cases_Bool (i == m || by_chain needs i m))

all_of_range : (a n : ℕ) → filter (λ k. true) (range_with_len a n) ≡ range_with_len a n
all_of_range a zero = refl
all_of_range a (suc n) = ap (λ xs. a ∷ xs) (all_of_range (a + 1) n)

pub prefix_allowed : (needs : ℕ → ℕ → Bool) (n k : ℕ) → IsBackward needs → k ≤ n → IsAllowed needs n (range_with_len 0 k)
prefix_allowed needs n k back few =
    subst (IsAllowed needs n) (all_of_range 0 k) (kept_allowed needs n k (λ x. true) back few (λ i j t u. refl))

pub hole_allowed : (needs : ℕ → ℕ → Bool) (n i j : ℕ) → IsBackward needs → j ≤ n → IsAllowed needs n (places_of_hole needs i j)
hole_allowed needs n i j back few = kept_allowed needs n j (is_kept needs i) back few (hole_keeps needs back i)

all_range : (P : ℕ → Type 0) (a n : ℕ) → ((k : ℕ) → k < a + n → P k) → All P (range_with_len a n)
all_range P a zero h = All-nil P
all_range P a (suc n) h = All-cons P a _ (h a (omega arith)) (all_range P (a + 1) n (λ k l. h k (omega (arith, l))))

all_flat : (P : Recipe → Type 0) (f : ℕ → List Recipe) (a n : ℕ) → ((k : ℕ) → k < a + n → All P (f k))
    → All P (flat_map f (range_with_len a n))
all_flat P f a zero h = All-nil P
all_flat P f a (suc n) h =
    All-append P (f a) (flat_map f (range_with_len (a + 1) n)) (h a (omega arith)) (all_flat P f (a + 1) n (λ k l. h k (omega (arith, l))))

module _ (needs : ℕ → ℕ → Bool) (n : ℕ) (back : IsBackward needs) where
  prefixes_good : All (λ r. IsAllowed needs n (set_of needs r)) (prefixes n)
  unfolding prefixes
  prefixes_good =
      All-map (λ r. IsAllowed needs n (set_of needs r)) Prefix (range_with_len 0 (n + 1))
      (all_range (λ k. IsAllowed needs n (range_with_len 0 k)) 0 (n + 1) (λ k l. prefix_allowed needs n k back (omega (arith, l))))

  holes_good : All (λ r. IsAllowed needs n (set_of needs r)) (holes_of needs n)
  unfolding holes_of
  holes_good = all_flat (λ r. IsAllowed needs n (set_of needs r)) (holes_at needs) 0 n (λ k l.
      All-map (λ r. IsAllowed needs n (set_of needs r)) (λ i. Hole i (k + 1)) (filter (λ i. is_kept needs i k) (range_with_len 0 k))
      (All-filter (λ i. is_kept needs i k) (λ i. IsAllowed needs n (places_of_hole needs i (k + 1))) (range_with_len 0 k)
      (all_range (λ i. IsAllowed needs n (places_of_hole needs i (k + 1))) 0 k
      (λ i m. hole_allowed needs n i (k + 1) back (omega (arith, l))))))

  families_good : (b : Bool) → All (λ r. IsAllowed needs n (set_of needs r)) (families needs n b)
  families_good true = All-append (λ r. IsAllowed needs n (set_of needs r)) (prefixes n) (holes_of needs n) prefixes_good holes_good
  families_good false =
      All-append (λ r. IsAllowed needs n (set_of needs r)) (prefixes n) [] prefixes_good (All-nil (λ r. IsAllowed needs n (set_of needs r)))

  pub all_good : (holes : Bool) (picks : List (List ℕ)) → All (IsAllowed needs n) picks
      → All (λ r. IsAllowed needs n (set_of needs r)) (recipes_of needs n holes picks)
  all_good holes picks allowed =
      All-append (λ r. IsAllowed needs n (set_of needs r)) (families needs n holes) (map Pick picks) (families_good holes)
      (All-map (λ r. IsAllowed needs n (set_of needs r)) Pick picks allowed)

-- the places of each recipe lie among those of the order
module _ (needs : ℕ → ℕ → Bool) (n : ℕ) where
  prefixes_within : All (IsWithin n) (prefixes n)
  unfolding prefixes
  prefixes_within = All-map (IsWithin n) Prefix (range_with_len 0 (n + 1)) (all_range (λ k. k ≤ n) 0 (n + 1) (λ k l. omega (arith, l)))

  hole_within : (i k : ℕ) → i < 0 + k → k < 0 + n → IsWithin n (Hole i (k + 1))
  hole_within i k l m = (omega (arith, l), omega (arith, m))

  holes_within : All (IsWithin n) (holes_of needs n)
  unfolding holes_of
  holes_within = all_flat (IsWithin n) (holes_at needs) 0 n (λ k l.
      All-map (IsWithin n) (λ i. Hole i (k + 1)) (filter (λ i. is_kept needs i k) (range_with_len 0 k))
      (All-filter (λ i. is_kept needs i k) (λ i. IsWithin n (Hole i (k + 1))) (range_with_len 0 k)
      (all_range (λ i. IsWithin n (Hole i (k + 1))) 0 k (λ i m. hole_within i k m l))))

  families_within : (holes : Bool) → All (IsWithin n) (families needs n holes)
  families_within true = All-append (IsWithin n) (prefixes n) (holes_of needs n) prefixes_within holes_within
  families_within false = All-append (IsWithin n) (prefixes n) [] prefixes_within (All-nil (IsWithin n))

  pick_within : (places : List ℕ) → IsAllowed needs n places → IsWithin n (Pick places)
  pick_within places allowed =
      ((λ k d l. subst (λ x. x < n) (get_or_default places k 0 d l) (allowed.in_range k l)), no_more (length places) refl)
    where
      -- a place is no lower than the number of those before it
      above : (a : ℕ) → a < length places → a ≤ get_or places a 0
      above zero l = omega arith
      above (suc a) l =
          (let below = above a (omega (arith, l)) in let up = allowed.ascending a (suc a) (omega arith) l in omega (arith, below, up))

      no_more : (m : ℕ) → length places ≡ m → length places ≤ n
      no_more zero e = omega (arith, e)
      no_more (suc a) e =
          (let low = above a (omega (arith, e)) in let high = allowed.in_range a (omega (arith, e)) in omega (arith, e, low, high))

  picks_within : (picks : List (List ℕ)) → All (IsAllowed needs n) picks → All (λ places. IsWithin n (Pick places)) picks
  picks_within picks allowed = λ k d l. pick_within (get_or picks k d) (allowed k d l)

  pub all_within : (holes : Bool) (picks : List (List ℕ)) → All (IsAllowed needs n) picks
      → All (IsWithin n) (recipes_of needs n holes picks)
  all_within holes picks allowed = All-append (IsWithin n) (families needs n holes) (map Pick picks) (families_within holes)
      (All-map (IsWithin n) Pick picks (picks_within picks allowed))
